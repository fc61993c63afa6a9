-- REGISTERS a second time, against JVMS 2.11.1: which types are of category 2, and which two are of one register category, as
-- `is_wide` of ty.rs and `same_register_category` of lattice.rs have it.
use Rattle.std.specs.Prelude.{◌≡◌, Bool, true, false, cond, List, [], ◌∷◌, map, ℕ, ◌<◌, eqb}
use Rattle.std.proofs.Math.Path.{refl}
use Rattle.order.specs.Compare.{compare_numbers}
use Rattle.order.specs.Lists.{elem}
use Rattle.order.specs.Tests.{same, same-eq, test_below, tested-below}
use Rattle.ty.specs.Types.{ArgType, Primitive, Object, Array, Unknown, compare, is_primitive, is_reference, wide_category, all_wide, is_wide, Boolean, Byte, Short, Char, Int, Long, Float, Double, ObjectCategory, ArrayCategory}
use Rattle.lattice.specs.Lattice.{same_type, has_all, unknown_accepts, same_register_category, observed_accepts, any_accepts, domain_accepts}

-- table 2.11.1-B: an actual type and its category
pub record Computational : Type 0 where
  pub actual : ℕ
  pub category : ℕ

unfoldable pub computational : List Computational
computational =
    record { actual = Boolean; category = 1 }
    ∷ record { actual = Byte; category = 1 }
    ∷ record { actual = Char; category = 1 }
    ∷ record { actual = Short; category = 1 }
    ∷ record { actual = Int; category = 1 }
    ∷ record { actual = Float; category = 1 }
    -- reference
    ∷ record { actual = ObjectCategory; category = 1 }
    ∷ record { actual = ArrayCategory; category = 1 }
    ∷ record { actual = Long; category = 2 }
    ∷ record { actual = Double; category = 2 }
    ∷ []

-- void is no value and has no category: the Rust counts it with 1
unfoldable pub category_in : List Computational → ℕ → ℕ
category_in [] k = 1
category_in (c ∷ cs) k = cond (eqb c.actual k) c.category (category_in cs k)

-- ---- one computed test over the eleven categories

tested-wide : test_below 11 (λ k. same (wide_category k) (eqb (category_in computational k) 2)) ≡ true
unfolding test_below same wide_category category_in computational
tested-wide = refl

-- WIDE exactly if it is of category 2
pub wide-category : (k : ℕ) → k < 11 → wide_category k ≡ eqb (category_in computational k) 2
wide-category k l =
    same-eq (wide_category k) (eqb (category_in computational k) 2)
    (tested-below 11 (λ j. same (wide_category j) (eqb (category_in computational j) 2)) k l tested-wide)

abbrev same_at : ℕ → ℕ → Bool
same_at j k = same (same_register_category (Primitive j) (Primitive k)) (eqb (category_in computational j) (category_in computational k))

tested-registers : test_below 11 (λ j. test_below 11 (λ k. same_at j k)) ≡ true
unfolding test_below same is_primitive wide_category is_wide same_register_category category_in computational
tested-registers = refl

-- TWO PRIMITIVES are of one register category exactly if they are of one category
pub primitive-registers : (j k : ℕ) → j < 11 → k < 11
    → same_register_category (Primitive j) (Primitive k) ≡ eqb (category_in computational j) (category_in computational k)
primitive-registers j k l m =
    same-eq (same_register_category (Primitive j) (Primitive k)) (eqb (category_in computational j) (category_in computational k))
    (tested-below 11 (λ b. same_at j b) k m (tested-below 11 (λ a. test_below 11 (λ b. same_at a b)) j l tested-registers))

-- two references always are, a primitive and a reference never, nor an Unknown and anything
module _ (k c d : ℕ) (t u : ArgType) (cs ds : List ℕ) where
  abbrev kinds : List ArgType
  kinds = Primitive k ∷ Object d ∷ Array u ∷ Unknown ds ∷ []

  pub register-kinds :
      (map (same_register_category (Object c)) kinds ≡ false ∷ true ∷ true ∷ false ∷ [])
      × (map (same_register_category (Array t)) kinds ≡ false ∷ true ∷ true ∷ false ∷ [])
      × (map (same_register_category (Unknown cs)) kinds ≡ false ∷ false ∷ false ∷ false ∷ [])
      × (same_register_category (Primitive k) (Object d) ≡ false)
      × (same_register_category (Primitive k) (Array u) ≡ false)
      × (same_register_category (Primitive k) (Unknown ds) ≡ false)
  unfolding is_primitive is_reference same_register_category
  register-kinds = (refl, refl, refl, refl, refl, refl)

-- an Unknown is wide exactly if each of its list is; of an empty list, too
pub wide-unknowns :
    (is_wide (Unknown []) ≡ true)
    × (is_wide (Unknown (Long ∷ Double ∷ [])) ≡ true)
    × (is_wide (Unknown (Long ∷ Int ∷ [])) ≡ false)
    × (is_wide (Unknown (Int ∷ Long ∷ [])) ≡ false)
unfolding wide_category all_wide is_wide
wide-unknowns = (refl, refl, refl, refl)

-- ---- what a domain accepts, at work

-- Int, Float, Long, a class, an array, Unknown[Int], Unknown[Int, Long]
abbrev asked : List ArgType
asked =
    Primitive Int ∷ Primitive Float ∷ Primitive Long ∷ Object 0 ∷ Array (Primitive Int) ∷ Unknown (Int ∷ []) ∷ Unknown (Int ∷ Long ∷ []) ∷ []

pub domain-examples :
    (map (domain_accepts []) asked ≡ true ∷ true ∷ true ∷ true ∷ true ∷ true ∷ true ∷ [])
    × (map (domain_accepts (Primitive Int ∷ [])) asked ≡ true ∷ true ∷ false ∷ false ∷ false ∷ false ∷ false ∷ [])
    × (map (domain_accepts (Primitive Double ∷ [])) asked ≡ false ∷ false ∷ true ∷ false ∷ false ∷ false ∷ false ∷ [])
    × (map (domain_accepts (Object 1 ∷ [])) asked ≡ false ∷ false ∷ false ∷ true ∷ true ∷ false ∷ false ∷ [])
    × (map (domain_accepts (Unknown (Int ∷ []) ∷ [])) asked ≡ true ∷ false ∷ false ∷ false ∷ false ∷ true ∷ false ∷ [])
    × (map (domain_accepts (Unknown (ObjectCategory ∷ []) ∷ Unknown (Long ∷ []) ∷ [])) asked ≡ false ∷ false ∷ true ∷ true ∷ false ∷ false ∷ false ∷ [])
unfolding elem compare_numbers compare same_type has_all unknown_accepts is_primitive is_reference wide_category is_wide same_register_category observed_accepts any_accepts domain_accepts
domain-examples = (refl, refl, refl, refl, refl, refl)
