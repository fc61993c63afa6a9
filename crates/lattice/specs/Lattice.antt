-- The value half of lattice.rs over types and a world, what they ask of the classes, in the names and the order of cases of the Rust.
use Rattle.std.specs.Prelude.{Bool, true, false, cond, not, ◌&&◌, ◌||◌, List, [], ◌∷◌, ℕ, zero, suc, ◌<◌, ◌≡◌, eqb}
use Rattle.std.proofs.Math.Option.{Option, some, none}
use Rattle.order.specs.Lists.{elem}
use Rattle.std.specs.declared.cmp.Ordering.{Ordering}
use Rattle.std.specs.declared.cmp.Ordering.TheVariants.{Less, Equal, Greater}
use Rattle.ty.specs.Types.{ArgType, Primitive, Object, Array, Unknown, compare, categories, is_primitive, is_reference, is_wide, concrete_hint, Boolean, Byte, Short, Char, Int, Long, Float, Double, ObjectCategory, ArrayCategory}
use Rattle.order.specs.Compare.{is_equal}
use Rattle.ty.specs.Answers.{unknown_type}
use Rattle.view.specs.declared.Relation.{Relation}
use Rattle.view.specs.declared.Relation.TheVariants.{Yes, No, Unknown as Incomplete}

-- what the rules ask of the classes: how many names there are, which is java/lang/Object, how one class stands to another, the least common
-- supertype of two, and the numbers of java/lang/Cloneable and java/io/Serializable where the names have them
pub record World : Type 0 where
  pub names : ℕ
  pub object : ℕ
  pub relation : ℕ → ℕ → Relation
  pub supertype : ℕ → ℕ → Option ℕ
  pub cloneable : Option ℕ
  pub serializable : Option ℕ

-- and what the laws ask: a class is Yes for itself and for Object, and a supertype is a class, Yes for both
pub record Lawful (w : World) : Type 0 where
  pub object-in : w.object < w.names
  pub self : (c : ℕ) → w.relation c c ≡ Yes
  pub top : (c : ℕ) → w.relation c w.object ≡ Yes
  pub above : (c d e : ℕ) → c < w.names → d < w.names → w.supertype c d ≡ some e → (e < w.names) × (w.relation c e ≡ Yes) × (w.relation d e ≡ Yes)

-- ---- small helpers

-- ==
unfoldable pub same_type : ArgType → ArgType → Bool
same_type t u = is_equal (compare t u)

abbrev pub is_number : ℕ → Option ℕ → Bool
is_number c none = false
is_number c (some d) = eqb c d

abbrev pub not_no : Relation → Bool
not_no Yes = true
not_no No = false
not_no Incomplete = true

-- ---- unknown_accepts, unknown_union

-- whether a list has every member of another
unfoldable pub has_all : List ℕ → List ℕ → Bool
has_all cs [] = true
has_all cs (d ∷ ds) = elem d cs && has_all cs ds

unfoldable pub unknown_accepts : List ℕ → ArgType → Bool
unknown_accepts cs (Primitive k) = elem k cs
unknown_accepts cs (Object c) = elem ObjectCategory cs
unknown_accepts cs (Array t) = elem ArrayCategory cs
unknown_accepts cs (Unknown ds) = has_all cs ds

-- the n numbers from i on that are in either list: a BTreeSet's order
unfoldable pub in_either : List ℕ → List ℕ → ℕ → ℕ → List ℕ
in_either cs ds i zero = []
in_either cs ds i (suc n) = cond (elem i cs || elem i ds) (i ∷ in_either cs ds (suc i) n) (in_either cs ds (suc i) n)

unfoldable pub unknown_union : ArgType → ArgType → ArgType
unknown_union left right = Unknown (in_either (categories left) (categories right) 0 11)

-- ---- is_assignable

unfoldable pub primitive_assignable : ℕ → ℕ → Bool
primitive_assignable value expected =
    (eqb value Byte && elem expected (Short ∷ Int ∷ Long ∷ Float ∷ Double ∷ []))
    || ((elem value (Short ∷ Char ∷ []) && elem expected (Int ∷ Long ∷ Float ∷ Double ∷ []))
    || ((eqb value Int && elem expected (Long ∷ Float ∷ Double ∷ []))
    || ((eqb value Long && elem expected (Float ∷ Double ∷ [])) || (eqb value Float && eqb expected Double))))

-- the element types of two arrays: primitives only where they are equal; `whole` is the whole question about them
unfoldable pub elements_assignable : ArgType → ArgType → Bool → Bool
elements_assignable value expected whole =
    cond (is_primitive value && is_primitive expected) (same_type value expected) (cond (is_primitive value || is_primitive expected) false whole)

-- what every array is assignable to
unfoldable pub array_parent : World → ℕ → Bool
array_parent w expected = eqb expected w.object || (is_number expected w.cloneable || is_number expected w.serializable)

-- two types that are not equal
unfoldable pub assignable_apart : World → ArgType → ArgType → Bool
assignable_apart w (Primitive value) (Primitive expected) = primitive_assignable value expected
assignable_apart w (Primitive value) (Object expected) = false
assignable_apart w (Primitive value) (Array expected) = false
assignable_apart w (Primitive value) (Unknown cs) = unknown_accepts cs (Primitive value)
assignable_apart w (Object value) (Primitive expected) = false
assignable_apart w (Object value) (Object expected) = not_no (w.relation value expected)
assignable_apart w (Object value) (Array expected) = false
assignable_apart w (Object value) (Unknown cs) = unknown_accepts cs (Object value)
assignable_apart w (Array value) (Primitive expected) = false
assignable_apart w (Array value) (Object expected) = array_parent w expected
assignable_apart w (Array value) (Array expected) = elements_assignable value expected (same_type value expected || assignable_apart w value expected)
assignable_apart w (Array value) (Unknown cs) = unknown_accepts cs (Array value)
assignable_apart w (Unknown ds) (Primitive expected) = unknown_accepts ds (Primitive expected)
assignable_apart w (Unknown ds) (Object expected) = unknown_accepts ds (Object expected)
assignable_apart w (Unknown ds) (Array expected) = unknown_accepts ds (Array expected)
assignable_apart w (Unknown ds) (Unknown cs) = unknown_accepts cs (Unknown ds)

unfoldable pub is_assignable : World → ArgType → ArgType → Bool
is_assignable w value expected = same_type value expected || assignable_apart w value expected

unfoldable pub producer_bound_compatible : World → ArgType → ArgType → Bool
producer_bound_compatible w produced expected = (is_reference produced && is_reference expected) || is_assignable w produced expected

-- ---- domain_accepts

-- two primitives that are both wide or both not, or two references
unfoldable pub same_register_category : ArgType → ArgType → Bool
same_register_category left right =
    cond (is_primitive left && is_primitive right) (cond (is_wide left) (is_wide right) (not (is_wide right))) (is_reference left && is_reference right)

unfoldable pub observed_accepts : ArgType → ArgType → Bool
observed_accepts (Primitive k) candidate = same_type (Primitive k) candidate || same_register_category (Primitive k) candidate
observed_accepts (Object c) candidate = same_type (Object c) candidate || same_register_category (Object c) candidate
observed_accepts (Array t) candidate = same_type (Array t) candidate || same_register_category (Array t) candidate
observed_accepts (Unknown cs) candidate = unknown_accepts cs candidate

unfoldable pub any_accepts : List ArgType → ArgType → Bool
any_accepts [] candidate = false
any_accepts (observed ∷ domain) candidate = observed_accepts observed candidate || any_accepts domain candidate

unfoldable pub domain_accepts : List ArgType → ArgType → Bool
domain_accepts [] candidate = true
domain_accepts (observed ∷ domain) candidate = any_accepts (observed ∷ domain) candidate

-- ---- join

-- Byte, Short, Char, Int
unfoldable pub narrow : ℕ → Bool
narrow k = elem k (Byte ∷ Short ∷ Char ∷ Int ∷ [])

-- Float, Long and those
unfoldable pub under_double : ℕ → Bool
under_double k = eqb k Float || (eqb k Long || narrow k)

unfoldable pub join_primitive : ℕ → ℕ → ArgType
join_primitive left right =
    cond ((eqb left Boolean && eqb right Int) || (eqb left Int && eqb right Boolean)) (Unknown (Boolean ∷ Int ∷ []))
    (cond (narrow left && narrow right) (Primitive Int)
    (cond ((eqb left Long && narrow right) || (narrow left && eqb right Long)) (Primitive Long)
    (cond ((eqb left Float && narrow right) || (narrow left && eqb right Float)) (Primitive Float)
    (cond ((eqb left Double && under_double right) || (under_double left && eqb right Double)) (Primitive Double) (Unknown (left ∷ right ∷ []))))))

-- the members of a list that another has, in the first one's order
unfoldable pub in_both : List ℕ → List ℕ → List ℕ
in_both [] ds = []
in_both (c ∷ cs) ds = cond (elem c ds) (c ∷ in_both cs ds) (in_both cs ds)

abbrev pub or_full : List ℕ → ArgType
or_full [] = unknown_type
or_full (c ∷ cs) = Unknown (c ∷ cs)

-- a known type with an Unknown
unfoldable pub join_known : ArgType → List ℕ → ArgType
join_known known cs = cond (unknown_accepts cs known) known (unknown_union known (Unknown cs))

-- two classes: their least common supertype, else Object
abbrev pub class_or : ℕ → Option ℕ → ArgType
class_or object none = Object object
class_or object (some c) = Object c

-- the element types of two arrays that are not equal: Object where one is primitive; `whole` is their join
unfoldable pub join_elements : ℕ → ArgType → ArgType → ArgType → ArgType
join_elements object left right whole = cond (is_primitive left || is_primitive right) (Object object) (Array whole)

-- an array and a class: Object where the class is Object
unfoldable pub join_array_class : World → ArgType → ArgType → ℕ → ArgType
join_array_class w left right class = cond (eqb class w.object) (Object w.object) (unknown_union left right)

-- two types that are not equal
unfoldable pub join_apart : World → ArgType → ArgType → ArgType
join_apart w (Primitive left) (Primitive right) = join_primitive left right
join_apart w (Primitive left) (Object right) = unknown_union (Primitive left) (Object right)
join_apart w (Primitive left) (Array right) = unknown_union (Primitive left) (Array right)
join_apart w (Primitive left) (Unknown cs) = join_known (Primitive left) cs
join_apart w (Object left) (Primitive right) = unknown_union (Object left) (Primitive right)
join_apart w (Object left) (Object right) = class_or w.object (w.supertype left right)
join_apart w (Object left) (Array right) = join_array_class w (Object left) (Array right) left
join_apart w (Object left) (Unknown cs) = join_known (Object left) cs
join_apart w (Array left) (Primitive right) = unknown_union (Array left) (Primitive right)
join_apart w (Array left) (Object right) = join_array_class w (Array left) (Object right) right
join_apart w (Array left) (Array right) = join_elements w.object left right (cond (same_type left right) left (join_apart w left right))
join_apart w (Array left) (Unknown cs) = join_known (Array left) cs
join_apart w (Unknown cs) (Primitive right) = join_known (Primitive right) cs
join_apart w (Unknown cs) (Object right) = join_known (Object right) cs
join_apart w (Unknown cs) (Array right) = join_known (Array right) cs
join_apart w (Unknown cs) (Unknown ds) = or_full (in_both cs ds)

unfoldable pub join : World → ArgType → ArgType → ArgType
join w left right = cond (same_type left right) left (join_apart w left right)

-- join_all of a list that ascends: the Rust sorts first (JoinAll)
unfoldable pub join_from : World → ArgType → List ArgType → ArgType
join_from w left [] = left
join_from w left (right ∷ rest) = join_from w (join w left right) rest

unfoldable pub join_all : World → List ArgType → Option ArgType
join_all w [] = none
join_all w (t ∷ ts) = some (join_from w t ts)

-- ---- most_specific_upper

unfoldable pub assignable_to_all : World → ArgType → List ArgType → Bool
assignable_to_all w candidate [] = true
assignable_to_all w candidate (other ∷ others) = is_assignable w candidate other && assignable_to_all w candidate others

-- the lesser of a candidate, if it is one, and what the others gave
abbrev pub lesser : ArgType → Option ArgType → Option ArgType
lesser t none = some t
lesser t (some u) = by (compare t u)
  where
    by : Ordering → Option ArgType
    by Less = some t
    by Equal = some t
    by Greater = some u

abbrev pub candidate : World → List ArgType → Option ArgType → Option ArgType → Option ArgType
candidate w upper none rest = rest
candidate w upper (some t) rest = cond (assignable_to_all w t upper) (lesser t rest) rest

unfoldable pub least_hint : World → List ArgType → List ArgType → Option ArgType
least_hint w upper [] = none
least_hint w upper (t ∷ ts) = candidate w upper (concrete_hint w.object t) (least_hint w upper ts)

unfoldable pub most_specific_upper : World → List ArgType → Option ArgType
most_specific_upper w upper = least_hint w upper upper
