-- What a `[u64; n]` that is a struct's field tells: it has n elements, and each fits 64 bits. For a `Set` s that is the first parameter, at entry:
--     array-length 16 s.words _ c.well_formed.0.1.1.0     length s.words ≡ 16
--     array-fits 16 s.words _ c.well_formed.0.1.1.0       Words s.words
-- The second parameter is at `c.well_formed.1.0`, and so on. Other crates cite this file as Rattle.sets.proofs.Good.
use mathlib.Core.Path.{◌≡◌}
use mathlib.Core.List.{List, [], ◌∷◌}
use Prim.Native.Nat.{ℕ, zero, suc, ◌^◌, ◌<◌}
use lib.Dec.{lit<}
use lib.ListN.{length, get_or}
use mir.Val.{Val}
use denote.Shadow.{shadow}
use denote.Array.{each, array_val}
use denote.Builtin.{u64}

each-fits : (xs : List ℕ) (us : List Val) → shadow (each ℕ u64.own_val xs us) → (i : ℕ) → get_or xs i 0 < 2 ^ 64
each-fits [] [] s i = lit< tt
each-fits [] (u ∷ us) s i = absurd s
each-fits (x ∷ xs) [] s i = absurd s
each-fits (x ∷ xs) (u ∷ us) s zero = s.0.1
each-fits (x ∷ xs) (u ∷ us) s (suc i) = each-fits xs us s.1 i

-- the elements' values, that there are n, and that each is one of its type
abbrev pub ArrayTells : ℕ → List ℕ → List Val → Type 0
ArrayTells n xs vs = (us : List Val) × (((vs ≡ array_val us ∷ []) × (length xs ≡ n)) × shadow (each ℕ u64.own_val xs us))

module _ (n : ℕ) (xs : List ℕ) (vs : List Val) (s : ArrayTells n xs vs) where
  pub array-length : length xs ≡ n
  array-length = s.1.0.1

  pub array-fits : (i : ℕ) → get_or xs i 0 < 2 ^ 64
  array-fits = each-fits xs s.0 s.1.1
