-- JLS 5.1.2: the nineteen widening primitive conversions, and that primitive_assignable of lattice.rs is exactly these. JLS 5.6.2: binary
-- numeric promotion, and where the join of two primitives is that.
use Rattle.std.specs.Prelude.{◌≡◌, refl, Bool, true, false, cond, not, ◌&&◌, ◌||◌, List, [], ◌∷◌, ℕ, ◌<◌, eqb}
use Rattle.std.proofs.Common.{◌∙◌, ne_eqb}
use Rattle.order.specs.Lists.{elem}
use Rattle.order.specs.Tests.{same, same-eq, test_below, tested-below}
use Rattle.order.specs.Compare.{compare_numbers, compare_lists}
use Rattle.ty.specs.Types.{ArgType, Primitive, Unknown, compare, Boolean, Byte, Short, Char, Int, Long, Float, Double}
use Rattle.lattice.specs.Lattice.{World, same_type, primitive_assignable, narrow, under_double, join_primitive, join}
use Rattle.lattice.specs.References.{same-exactly}
use Rattle.lattice.specs.JoinTable.{join_categories, join-categories}

-- "byte to short, int, long, float, or double", and so on: what each widens to
pub record Widening : Type 0 where
  pub source : ℕ
  pub targets : List ℕ

unfoldable pub widenings : List Widening
widenings =
    record { source = Byte; targets = Short ∷ Int ∷ Long ∷ Float ∷ Double ∷ [] }
    ∷ record { source = Short; targets = Int ∷ Long ∷ Float ∷ Double ∷ [] }
    ∷ record { source = Char; targets = Int ∷ Long ∷ Float ∷ Double ∷ [] }
    ∷ record { source = Int; targets = Long ∷ Float ∷ Double ∷ [] }
    ∷ record { source = Long; targets = Float ∷ Double ∷ [] }
    ∷ record { source = Float; targets = Double ∷ [] }
    ∷ []

unfoldable pub widens_in : List Widening → ℕ → ℕ → Bool
widens_in [] value expected = false
widens_in (w ∷ ws) value expected = (eqb w.source value && elem expected w.targets) || widens_in ws value expected

unfoldable pub widens : ℕ → ℕ → Bool
widens value expected = widens_in widenings value expected

-- ---- one computed test over the eleven categories each way

tested : test_below 11 (λ v. test_below 11 (λ e. same (primitive_assignable v e) (widens v e))) ≡ true
unfolding test_below same primitive_assignable widens widens_in widenings elem
tested = refl

-- of the eleven categories, a value's is assignable to another exactly if JLS 5.1.2 widens it: never with Void, Boolean, Object, Array
pub assignable-widens : (value expected : ℕ) → value < 11 → expected < 11 → primitive_assignable value expected ≡ widens value expected
assignable-widens value expected v e =
    same-eq (primitive_assignable value expected) (widens value expected)
    (tested-below 11 (λ k. same (primitive_assignable value k) (widens value k)) expected e
    (tested-below 11 (λ j. test_below 11 (λ k. same (primitive_assignable j k) (widens j k))) value v tested))

-- ---- JLS 5.6.2

-- JLS 4.2: "the integral types are byte, short, int, long and char, the floating-point types are float and double"
unfoldable pub numeric : ℕ → Bool
numeric k = elem k (Byte ∷ Short ∷ Int ∷ Long ∷ Char ∷ Float ∷ Double ∷ [])

-- "if any expression is of type double, double; otherwise float; otherwise long; otherwise int"
unfoldable pub promoted : ℕ → ℕ → ℕ
promoted left right =
    cond (eqb left Double || eqb right Double) Double
    (cond (eqb left Float || eqb right Float) Float (cond (eqb left Long || eqb right Long) Long Int))

-- the one pair of numeric types that lattice.rs does not promote: Long and Float
unfoldable pub long_float : ℕ → ℕ → Bool
long_float left right = (eqb left Long && eqb right Float) || (eqb left Float && eqb right Long)

-- a join of two primitives by the JLS: of equal ones that one, of two numeric ones but Long and Float the promotion; Boolean with Int is
-- Unknown[Boolean, Int], and all others are the Unknown of both
unfoldable pub by_jls : ℕ → ℕ → ArgType
by_jls left right =
    cond (eqb left right) (Primitive left)
    (cond ((numeric left && numeric right) && not (long_float left right)) (Primitive (promoted left right))
    (cond ((eqb left Boolean && eqb right Int) || (eqb left Int && eqb right Boolean)) (Unknown (Boolean ∷ Int ∷ [])) (Unknown (left ∷ right ∷ []))))

tested-joins : test_below 11 (λ l. test_below 11 (λ r. same_type (join_categories l r) (by_jls l r))) ≡ true
unfolding test_below elem compare_numbers compare_lists compare same_type narrow under_double join_primitive join_categories numeric promoted long_float by_jls
tested-joins = refl

pub join-by-jls : (w : World) (left right : ℕ) → left < 11 → right < 11 → join w (Primitive left) (Primitive right) ≡ by_jls left right
join-by-jls w left right l r =
    join-categories w left right
    ∙ (same-exactly (join_categories left right) (by_jls left right)).0
    (tested-below 11 (λ k. same_type (join_categories left k) (by_jls left k)) right r
    (tested-below 11 (λ j. test_below 11 (λ k. same_type (join_categories j k) (by_jls j k))) left l tested-joins))

-- NUMERIC PROMOTION is the join of two different numeric types, Long with Float apart
pub join-promotes : (w : World) (left right : ℕ) → left < 11 → right < 11 → (left ≡ right → ⊥) → numeric left ≡ true → numeric right ≡ true
    → long_float left right ≡ false → join w (Primitive left) (Primitive right) ≡ Primitive (promoted left right)
unfolding by_jls
join-promotes w left right l r apart n m f = join-by-jls w left right l r ∙ rw (ne_eqb left right apart, n, m, f)
