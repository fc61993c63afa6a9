-- `compare_names` meets its contract. The invariant: the names are compared as their bytes from i on are.
use mathlib.Core.Path.{◌≡◌, refl, sym, ap₂, ◌∙◌}
use mathlib.Core.List.{List}
use Prim.Native.Nat.{ℕ, suc, ◌+◌, ◌<◌, min}
use native.Mathlib.Numerals.{add-one}
use native.Mathlib.Omega.{arith}
use lib.ListN.{length, get_or, drop, drop_of_length-le}
use lib.Seq.{drop-cons}
use Rattle.order.specs.Laws.{numbers-same, numbers-by}
use Rattle.order.specs.Compare.{compare_numbers, compare_lists, then}
use Rattle.std.specs.declared.cmp.Ordering.{Ordering}
use Rattle.nameorder.proofs.compare_names.Goals as goal

-- ---- the comparison from i on
module _ (a b : List ℕ) (i : ℕ) where
  same-byte : i < length a → i < length b → get_or a i 0 ≡ get_or b i 0
      → compare_lists (drop i a) (drop i b) ≡ compare_lists (drop (i + 1) a) (drop (i + 1) b)
  unfolding compare_lists
  same-byte p q e = rw (add-one, drop-cons a i 0, drop-cons b i 0, e, numbers-same)

  other-byte : i < length a → i < length b → (get_or a i 0 ≡ get_or b i 0 → ⊥)
      → compare_lists (drop i a) (drop i b) ≡ compare_numbers (get_or a i 0) (get_or b i 0)
  unfolding compare_lists
  other-byte p q ne =
      rw (drop-cons a i 0, drop-cons b i 0)
      (numbers-by (λ (o : Ordering). then o (compare_lists (drop (suc i) a) (drop (suc i) b)) ≡ o) (get_or a i 0) (get_or b i 0)
      (λ h. refl) (λ h. absurd (ne h)) (λ h. refl))

  one-ended : i ≡ min (length a) (length b) → compare_lists (drop i a) (drop i b) ≡ compare_numbers (length a) (length b)
  unfolding compare_lists
  one-ended e =
      numbers-by (λ (o : Ordering). compare_lists (drop i a) (drop i b) ≡ o) (length a) (length b)
      (λ h. rw (drop_of_length-le a {i = i} (omega arith), drop-cons b i 0 (omega arith)))
      (λ h. rw (drop_of_length-le a {i = i} (omega arith), drop_of_length-le b {i = i} (omega arith)))
      (λ h. rw (drop-cons a i 0 (omega arith), drop_of_length-le b {i = i} (omega arith)))

pub returns-then-a-i : goal.returns-then-a-i
returns-then-a-i c =
    let a = c.args in
    let l = c.loop-i in
    c.compare_numbers.ensures
    ∙ ap₂ compare_numbers c.from.ensures c.from-then-a-i.ensures
    ∙ sym (l.invariant.1 ∙ other-byte a.a.now a.b.now l.i (omega arith) (omega arith)
    c.if-a-i.true)

pub loop-i-preserved : goal.loop-i-preserved
loop-i-preserved c =
    let a = c.args in
    let l = c.loop-i in (
      l.invariant.0,
      l.invariant.1 ∙ same-byte a.a.now a.b.now l.i (omega arith) (omega arith) c.if-a-i.false,
    )

pub returns : goal.returns
returns c =
    let a = c.args in
    let l = c.loop-i in
    c.compare_numbers-2.ensures ∙ sym (l.invariant.1 ∙ one-ended a.a.now a.b.now l.i (omega arith))
