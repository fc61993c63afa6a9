-- A part of a list whose bytes have no fault is smooth, and so well-formed, as the code meets it.
use mathlib.Core.Path.{◌≡◌, subst}
use mathlib.Core.List.{List, [], append-nil}
use Prim.Native.Nat.{ℕ, zero, suc, ◌+◌, ◌-◌, ◌≤◌, ◌<◌}
use native.Mathlib.Omega.{arith}
use lib.ListN.{length, get_or, drop_of_length-le, take}
use lib.Seq.{slice, length-slice, length-take-le}
use Rattle.utf8.specs.Utf8.{valid_prefix, WellFormed}
use Rattle.utf8.specs.Laws.{prefix-append, prefix-le}
use Rattle.utf8.specs.Seams.{Clean, CleanEnds, Smooth, smooth-whole}
use Rattle.utf8.proofs.Part.{part-cons}

module _ (s : List ℕ) (to : ℕ) (fits : to ≤ length s) (low : get_or s (to - 2) 0 < 0xE0) (last : get_or s (to - 1) 0 < 0xC0) where
  -- from r on, after the bytes at p and q, which stand next to each other before it
  smooth-from : (n p q r : ℕ) → q ≡ p + 1 → r ≡ p + 2 → r + n ≡ to → Clean s p (to - 2) → Smooth (get_or s p 0) (get_or s q 0) (slice r to s)
  unfolding Smooth
  smooth-from zero p q r d e h c =
      let u : to - 2 ≡ p = omega arith in
      let v : to - 1 ≡ q = omega arith in
      rw (drop_of_length-le (take to s) {i = r} (omega (arith, length-take-le to s fits)))
      (subst (λ (x : ℕ). get_or s x 0 < 0xE0) u low, subst (λ (x : ℕ). get_or s x 0 < 0xC0) v last)
  smooth-from (suc n) p q r d e h c =
      let rest = smooth-from n q r (r + 1) (omega arith) (omega arith) (omega arith) (λ x a b. c x (omega arith) b) in
      rw (part-cons r to s (omega arith) fits) (rw (d, e) (c p (omega arith) (omega arith)), rest)

whole-length : {bs : List ℕ} → WellFormed bs → valid_prefix bs ≡ length bs
whole-length w =
    let e = rw append-nil at (prefix-append w []) in
    omega (arith, e, prefix-le [])

-- WITHOUT A FAULT, THE PART IS WELL-FORMED
pub clean-part : (s : List ℕ) (from to : ℕ) → from + 2 ≤ to → to ≤ length s → CleanEnds s from to → Clean s from (to - 2)
    → from + valid_prefix (slice from to s) ≡ to
unfolding Smooth
clean-part s from to h fits e c =
    let rest = smooth-from s to fits e.2 e.3 (to - from - 2) from (from + 1) (from + 1 + 1) (omega arith) (omega arith) (omega arith) c in
    let all : Smooth 0 0 (slice from to s) = rw (part-cons from to s (omega arith) fits, part-cons (from + 1) to s (omega arith) fits) (e.0, (e.1, rest)) in
    omega (arith, whole-length (smooth-whole (slice from to s) all), length-slice from to s fits)
