-- `each_line` is safe and ends.
use Rattle.std.proofs.Common.{◌-◌, length}
use Rattle.replaying.proofs.run.each_line.Given as goal

abbrev pub invariant-loop-i : goal.invariant-loop-i
invariant-loop-i g l = goal.F-IsAlwaysCallable g l.judge

abbrev pub decreases-loop-i : goal.decreases-loop-i
decreases-loop-i g l = length l.input - l.i
