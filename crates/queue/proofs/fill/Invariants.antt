-- `fill` meets its contract: after i steps the first i components stand in the ring and in the set.
use mathlib.Core.Path.{◌≡◌}
use mathlib.Core.List.{◌++◌}
use lib.ListN.{drop}
use Rattle.view.specs.View.{numbers}
use Rattle.queue.specs.Ring.{first_set}
use Rattle.queue.proofs.fill.Given as goal

abbrev pub invariant-loop-i : goal.invariant-loop-i
invariant-loop-i l = (l.queued.words ≡ first_set l.i) × (l.ring ≡ numbers 0 l.i ++ drop l.i l.initial.ring)
