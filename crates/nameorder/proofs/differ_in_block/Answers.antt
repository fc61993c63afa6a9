-- The test of a block meets its contract: the names differ in it where they differ in its first k bytes or in the rest.
use mathlib.Core.Path.{◌≡◌, sym, ap, ap₂, ◌∙◌}
use mathlib.Core.Bool.{Bool, ◌||◌, or-true, or-false}
use Prim.Native.Nat.{ℕ, ◌+◌}
use native.Mathlib.Omega.{arith}
use lib.Seq.{slice}
use Rattle.nameorder.proofs.Block.{differ, same-first, other-first, none-left}
use Rattle.nameorder.proofs.differ_in_block.Goals as goal
use Rattle.nameorder.proofs.differ_in_block.Goals.{then-a-i, else-a-i}

pub loop-k-preserved : goal.loop-k-preserved
loop-k-preserved c =
    let a = c.args in
    let l = c.loop-k in
    let x = a.a.now in
    let y = a.b.now in
    let i = a.i in
    let next : i + l.k + 1 ≡ i + (l.k + 1) = omega arith in (
      l.invariant.0,
      l.invariant.1,
      l.invariant.2
          ∙ elim c.if-a-i.branch [
            | then-a-i w ↦ ap (λ (t : Bool). l.differ || t) (other-first x y (i + l.k) (i + 8) (omega arith) l.invariant.0 l.invariant.1 w.if-a-i.true) ∙ rw w.differ-is (or-true l.differ)
            | else-a-i w ↦ ap₂ ◌||◌ (sym w.differ-is)
                (same-first x y (i + l.k) (i + 8) (omega arith) l.invariant.0 l.invariant.1 w.if-a-i.false
                ∙ ap (λ (n : ℕ). differ (slice n (i + 8) x) (slice n (i + 8) y)) next)
          ],
    )

pub returns : goal.returns
returns c =
    let a = c.args in
    let l = c.loop-k in
    let x = a.a.now in
    let y = a.b.now in
    let end : a.i + l.k ≡ a.i + 8 = omega arith in
    sym
    (l.invariant.2
    ∙ ap (λ (n : ℕ). l.differ || differ (slice n (a.i + 8) x) (slice n (a.i + 8) y)) end
    ∙ ap (λ (t : Bool). l.differ || t) (none-left x y (a.i + 8))
    ∙ or-false l.differ)
