-- The test of a block meets its contract: after k bytes, `found` says whether the first ';' is among them.
use borrow.Author.Tests.{lt-ltb, le-ltb, ltb-true, ltb-false}
use mathlib.Core.Path.{◌≡◌, refl, sym, ◌∙◌}
use mathlib.Core.Bool.{Bool, true, false}
use mathlib.Core.List.{List}
use Prim.Native.Nat.{ℕ, ◌+◌, ◌<◌}
use native.Mathlib.Omega.{arith}
use lib.Dec.{ltb}
use lib.ListN.{length, drop, get_or}
use Rattle.descriptor.specs.Read.{index_of}
use Rattle.descriptor.specs.Steps.{index-here, index-later, index-past}
use Rattle.descriptor.proofs.ends_in_block.Goals as goal
use Rattle.descriptor.proofs.ends_in_block.Goals.{then-s-i-eq59, else-s-i-eq59}

module _ (s : List ℕ) (i k : ℕ) (h : i + k < length s) where
  abbrev first : ℕ
  first = index_of 59 (drop i s)

  here : get_or s (i + k) 0 ≡ 59 → true ≡ ltb first (k + 1)
  here e = go (ltb first k) refl
    where
      go : (t : Bool) → ltb first k ≡ t → true ≡ ltb first (k + 1)
      go true q = sym (lt-ltb first (k + 1) (omega (arith, ltb-true first k q)))
      go false q = sym (lt-ltb first (k + 1) (omega (arith, index-past 59 s i k (ltb-false first k q), index-here 59 s (i + k) h e)))

  later : (get_or s (i + k) 0 ≡ 59 → ⊥) → ltb first k ≡ ltb first (k + 1)
  later n = go (ltb first k) refl
    where
      go : (t : Bool) → ltb first k ≡ t → ltb first k ≡ ltb first (k + 1)
      go true q = q ∙ sym (lt-ltb first (k + 1) (omega (arith, ltb-true first k q)))
      go false q = q ∙ sym (le-ltb first (k + 1) (omega (arith, index-past 59 s i k (ltb-false first k q), index-later 59 s (i + k) h n)))

pub loop-k-preserved : goal.loop-k-preserved
loop-k-preserved c =
    let a = c.args in
    let l = c.loop-k in (
      l.invariant.0,
      elim c.if-s-i-eq59.branch [
        | then-s-i-eq59 w ↦ w.found-is ∙ here a.s.now a.i l.k (omega arith) w.if-s-i-eq59.true
        | else-s-i-eq59 w ↦ w.found-is ∙ l.invariant.1 ∙ later a.s.now a.i l.k (omega arith) w.if-s-i-eq59.false
      ],
    )
