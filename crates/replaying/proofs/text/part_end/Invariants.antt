-- `part_end` meets its contract: b does not stand before the index.
use Rattle.replaying.proofs.Steps.{Without}
use Rattle.replaying.proofs.text.part_end.Given as goal

abbrev pub invariant-loop-i : goal.invariant-loop-i
invariant-loop-i l = Without l.text l.from l.b l.i
