-- The types of ty.rs and what is asked of one or two of them, in the names and the order of cases of the Rust.
-- A category and a class are numbers: a category's number is its place in PrimitiveType, a class's its place among the names.
use Rattle.std.specs.Prelude.{Bool, true, false, cond, not, ◌&&◌, ◌||◌, List, [], ◌∷◌, ℕ, zero, suc, ◌^◌, eqb}
use Rattle.std.proofs.Math.Option.{Option, some, none}
use Rattle.std.specs.Int.Bits.{bit_or}
use Rattle.std.specs.declared.cmp.Ordering.{Ordering}
use Rattle.std.specs.declared.cmp.Ordering.TheVariants.{Less, Greater}
use Rattle.order.specs.Compare.{compare_numbers, compare_lists}

-- ---- PrimitiveType

abbrev pub Void : ℕ
Void = 0

abbrev pub Boolean : ℕ
Boolean = 1

abbrev pub Byte : ℕ
Byte = 2

abbrev pub Short : ℕ
Short = 3

abbrev pub Char : ℕ
Char = 4

abbrev pub Int : ℕ
Int = 5

abbrev pub Long : ℕ
Long = 6

abbrev pub Float : ℕ
Float = 7

abbrev pub Double : ℕ
Double = 8

abbrev pub ObjectCategory : ℕ
ObjectCategory = 9

abbrev pub ArrayCategory : ℕ
ArrayCategory = 10

-- ---- ArgType

pub data ArgType : Type 0 where
  Primitive : ℕ → ArgType
  Object : ℕ → ArgType
  Array : ArgType → ArgType
  Unknown : List ℕ → ArgType

-- how many times Array stands before what is no array
unfoldable pub depth : ArgType → ℕ
depth (Primitive k) = 0
depth (Object c) = 0
depth (Array t) = suc (depth t)
depth (Unknown cs) = 0

-- a type under d arrays
unfoldable pub arrays : ℕ → ArgType → ArgType
arrays zero t = t
arrays (suc d) t = Array (arrays d t)

-- ---- type queries

unfoldable pub is_known : ArgType → Bool
is_known (Primitive k) = true
is_known (Object c) = true
is_known (Array t) = true
is_known (Unknown cs) = false

unfoldable pub is_primitive : ArgType → Bool
is_primitive (Primitive k) = true
is_primitive (Object c) = false
is_primitive (Array t) = false
is_primitive (Unknown cs) = false

unfoldable pub is_object : ArgType → Bool
is_object (Primitive k) = false
is_object (Object c) = true
is_object (Array t) = false
is_object (Unknown cs) = false

unfoldable pub is_array : ArgType → Bool
is_array (Primitive k) = false
is_array (Object c) = false
is_array (Array t) = true
is_array (Unknown cs) = false

unfoldable pub is_reference : ArgType → Bool
is_reference (Primitive k) = false
is_reference (Object c) = true
is_reference (Array t) = true
is_reference (Unknown cs) = false

unfoldable pub wide_category : ℕ → Bool
wide_category k = eqb k Long || eqb k Double

unfoldable pub all_wide : List ℕ → Bool
all_wide [] = true
all_wide (c ∷ cs) = wide_category c && all_wide cs

unfoldable pub is_wide : ArgType → Bool
is_wide (Primitive k) = wide_category k
is_wide (Object c) = false
is_wide (Array t) = false
is_wide (Unknown cs) = all_wide cs

-- as_array_element
unfoldable pub element : ArgType → Option ArgType
element (Primitive k) = none
element (Object c) = none
element (Array t) = some t
element (Unknown cs) = none

-- ---- what lattice.rs asks of one type alone

unfoldable pub is_concrete : ArgType → Bool
is_concrete (Primitive k) = not (eqb k ObjectCategory || eqb k ArrayCategory)
is_concrete (Object c) = true
is_concrete (Array t) = is_concrete t
is_concrete (Unknown cs) = false

-- the list that the set of a type's categories is made of
unfoldable pub categories : ArgType → List ℕ
categories (Primitive k) = k ∷ []
categories (Object c) = ObjectCategory ∷ []
categories (Array t) = ArrayCategory ∷ []
categories (Unknown cs) = cs

-- a set of categories, one bit a category, with those of a list
unfoldable pub mask_with : ℕ → List ℕ → ℕ
mask_with m [] = m
mask_with m (c ∷ cs) = mask_with (bit_or m (2 ^ c)) cs

-- the one type that a list of categories stands for; `object` is the number of java/lang/Object
unfoldable pub hint_of_list : ℕ → List ℕ → Option ArgType
hint_of_list object [] = none
hint_of_list object (c ∷ []) = cond (eqb c ObjectCategory) (some (Object object)) (cond (eqb c ArrayCategory) none (some (Primitive c)))
hint_of_list object (c ∷ d ∷ cs) = none

unfoldable pub concrete_hint : ℕ → ArgType → Option ArgType
concrete_hint object (Primitive k) = cond (is_concrete (Primitive k)) (some (Primitive k)) none
concrete_hint object (Object c) = some (Object c)
concrete_hint object (Array t) = cond (is_concrete t) (some (Array t)) none
concrete_hint object (Unknown cs) = hint_of_list object cs

-- ---- the derived order: Primitive < Object < Array < Unknown, then what they hold

unfoldable pub compare : ArgType → ArgType → Ordering
compare (Primitive a) (Primitive b) = compare_numbers a b
compare (Primitive a) (Object b) = Less
compare (Primitive a) (Array u) = Less
compare (Primitive a) (Unknown ys) = Less
compare (Object a) (Primitive b) = Greater
compare (Object a) (Object b) = compare_numbers a b
compare (Object a) (Array u) = Less
compare (Object a) (Unknown ys) = Less
compare (Array t) (Primitive b) = Greater
compare (Array t) (Object b) = Greater
compare (Array t) (Array u) = compare t u
compare (Array t) (Unknown ys) = Less
compare (Unknown xs) (Primitive b) = Greater
compare (Unknown xs) (Object b) = Greater
compare (Unknown xs) (Array u) = Greater
compare (Unknown xs) (Unknown ys) = compare_lists xs ys
