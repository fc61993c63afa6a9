-- How numbers and lists of numbers are compared.
use Rattle.std.specs.Prelude.{Bool, true, false, cond, List, [], ◌∷◌, ℕ, ltb}
use Rattle.std.specs.declared.cmp.Ordering.{Ordering}
use Rattle.std.specs.declared.cmp.Ordering.TheVariants.{Less, Equal, Greater}

abbrev pub is_less : Ordering → Bool
is_less Less = true
is_less Equal = false
is_less Greater = false

abbrev pub is_equal : Ordering → Bool
is_equal Less = false
is_equal Equal = true
is_equal Greater = false

-- the answer for the arguments exchanged
abbrev pub flip : Ordering → Ordering
flip Less = Greater
flip Equal = Equal
flip Greater = Less

-- the second answer where the first says Equal
abbrev pub then : Ordering → Ordering → Ordering
then Less o = Less
then Equal o = o
then Greater o = Greater

unfoldable pub compare_numbers : ℕ → ℕ → Ordering
compare_numbers a b = cond (ltb a b) Less (cond (ltb b a) Greater Equal)

-- left to right, a shorter prefix first
unfoldable pub compare_lists : List ℕ → List ℕ → Ordering
compare_lists [] [] = Equal
compare_lists [] (y ∷ ys) = Less
compare_lists (x ∷ xs) [] = Greater
compare_lists (x ∷ xs) (y ∷ ys) = then (compare_numbers x y) (compare_lists xs ys)

-- the number of each answer
unfoldable pub order_number : Ordering → ℕ
order_number Less = 0
order_number Equal = 1
order_number Greater = 2
