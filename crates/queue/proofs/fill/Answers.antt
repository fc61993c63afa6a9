-- `fill` meets its contract: after i steps the first i components stand in the ring and in the set.
use mathlib.Core.Path.{◌≡◌, refl, sym, ap, ◌∙◌}
use mathlib.Core.List.{List, ◌++◌}
use Prim.Native.Nat.{ℕ, ◌+◌}
use native.Mathlib.Omega.{arith}
use lib.ListN.{drop, set}
use Rattle.sets.specs.Sets.{insert}
use Rattle.view.specs.View.{numbers}
use Rattle.queue.specs.Ring.{first_set}
use Rattle.queue.specs.Laws.{first-more, numbers-more}
use Rattle.queue.proofs.fill.Goals as goal

pub loop-i-init : goal.loop-i-init
unfolding numbers first_set
loop-i-init c = (c.empty-queued.ensures, refl)

pub loop-i-preserved : goal.loop-i-preserved
loop-i-preserved c =
    let a = c.args in
    let l = c.loop-i in (
      c.with-queued.ensures ∙ ap (λ (ws : List ℕ). insert ws l.i) l.invariant.0 ∙ sym (first-more l.i),
      ap (λ (r : List ℕ). set r l.i l.i) l.invariant.1
          ∙ numbers-more l.i a.ring.now (omega (arith, c.requires.0, c.requires.1)),
    )

pub returns : goal.returns
returns c =
    let a = c.args in
    let l = c.loop-i in
    let e : l.i ≡ a.n = omega arith in
    (λ k. record { head = 0; len = a.n; queued = record { words = (l.invariant.0 ∙ ap first_set e) k } }, l.invariant.1 ∙ ap (λ (n : ℕ). numbers 0 n ++ drop n a.ring.now) e)
