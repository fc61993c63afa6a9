-- Names that are the same from i up to `to`: they stand to each other as what is left of them does.
use mathlib.Core.Path.{◌≡◌, refl, sym, ap, ap₂, ◌∙◌}
use mathlib.Core.Bool.{Bool, true, false, not, true≢false}
use mathlib.Core.List.{List, [], ◌∷◌, ◌++◌}
use Prim.Native.Nat.{ℕ, zero, suc, ◌+◌, ◌≤◌, ◌<◌}
use native.Mathlib.Numerals.{add-one}
use native.Mathlib.Omega.{arith}
use lib.ListN.{length, get_or, drop, take-append-drop}
use lib.Seq.{slice, slice_empty, slice-cons}
use Rattle.order.specs.Laws.{numbers-same, numbers-by, lists-equal}
use Rattle.order.specs.Compare.{compare_lists, then, is_equal}
use Rattle.std.specs.declared.cmp.Ordering.{Ordering}
use Rattle.std.specs.declared.cmp.Ordering.TheVariants.{Less, Equal, Greater}

-- whether two lists differ
abbrev pub differ : List ℕ → List ℕ → Bool
differ a b = not (is_equal (compare_lists a b))

module _ (a b : List ℕ) (i to : ℕ) (h : i < to) (p : to ≤ length a) (q : to ≤ length b) where
  pub same-first : get_or a i 0 ≡ get_or b i 0 → differ (slice i to a) (slice i to b) ≡ differ (slice (i + 1) to a) (slice (i + 1) to b)
  unfolding compare_lists
  same-first e = rw (add-one, slice-cons i to a 0 h p, slice-cons i to b 0 h q, e, numbers-same)

  pub other-first : (get_or a i 0 ≡ get_or b i 0 → ⊥) → differ (slice i to a) (slice i to b) ≡ true
  unfolding compare_lists
  other-first ne =
      rw (slice-cons i to a 0 h p, slice-cons i to b 0 h q)
      (numbers-by (λ (o : Ordering). not (is_equal (then o (compare_lists (slice (suc i) to a) (slice (suc i) to b)))) ≡ true) (get_or a i 0) (get_or b i 0)
      (λ l. refl) (λ e. absurd (ne e)) (λ g. refl))

pub none-left : (a b : List ℕ) (to : ℕ) → differ (slice to to a) (slice to to b) ≡ false
unfolding compare_lists
none-left a b to = rw (slice_empty to a, slice_empty to b)

-- ---- past a part in which they are the same

equal : (o : Ordering) → not (is_equal o) ≡ false → o ≡ Equal
equal Less h = absurd (true≢false h)
equal Equal h = refl
equal Greater h = absurd (true≢false h)

common : (front a b : List ℕ) → compare_lists (front ++ a) (front ++ b) ≡ compare_lists a b
unfolding compare_lists
common [] a b = refl
common (x ∷ front) a b = rw numbers-same (common front a b)

seam : (i to : ℕ) (l : List ℕ) → i ≤ to → slice i to l ++ drop to l ≡ drop i l
seam zero to l h = take-append-drop to l
seam (suc i) zero l h = absurd (omega arith)
seam (suc i) (suc to) [] h = refl
seam (suc i) (suc to) (x ∷ l) h = seam i to l (omega arith)

pub past : (a b : List ℕ) (i to : ℕ) → i ≤ to → differ (slice i to a) (slice i to b) ≡ false
    → compare_lists (drop i a) (drop i b) ≡ compare_lists (drop to a) (drop to b)
past a b i to h e =
    sym (ap₂ compare_lists (seam i to a h) (seam i to b h))
    ∙ ap (λ (l : List ℕ). compare_lists (l ++ drop to a) (slice i to b ++ drop to b))
    (lists-equal (slice i to a) (slice i to b) (equal (compare_lists (slice i to a) (slice i to b)) e))
    ∙ common (slice i to b) (drop to a) (drop to b)
