-- `search` meets its contract: the middle name settles all on one side of it.
use Prim.Native.Nat.{◌-◌}
use Rattle.names.proofs.Bracket.{Bracket}
use Rattle.names.proofs.search.Given as goal

abbrev pub invariant-loop-low : goal.invariant-loop-low
invariant-loop-low l = Bracket l.names l.name_at l.name_len l.key l.low l.high

abbrev pub decreases-loop-low : goal.decreases-loop-low
decreases-loop-low l = l.high - l.low
