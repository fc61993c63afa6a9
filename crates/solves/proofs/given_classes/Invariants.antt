-- `given_classes` meets its contract: so far only classes of the table are in.
use Rattle.sets.specs.Sets.{MembersBelow}
use Rattle.solves.proofs.given_classes.Given as goal

abbrev pub invariant-loop-key : goal.invariant-loop-key
invariant-loop-key l = MembersBelow l.names l.s.words
