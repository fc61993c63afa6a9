-- `clear` meets its contract: the words before i are zero, sixteen more at each turn, and at last the rest.
use Rattle.std.proofs.Common.{◌≡◌, ◌-◌, ◌≤◌, ◌++◌, length, drop, replicate}
use Rattle.clearing.proofs.clear.Given as goal

abbrev pub invariant-loop-work : goal.invariant-loop-work
invariant-loop-work l = (l.i ≤ length l.work) × (l.work ≡ replicate l.i 0 ++ drop l.i l.initial.work)

abbrev pub decreases-loop-work : goal.decreases-loop-work
decreases-loop-work l = length l.initial.work - l.i
