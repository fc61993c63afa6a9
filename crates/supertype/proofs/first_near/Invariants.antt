-- `first_near` meets its contract: at each turn both walks stand at level k, and nothing of the set was hit before.
use Rattle.tables.specs.Table.{view_of}
use Rattle.supertype.specs.Near.{Meeting}
use Rattle.supertype.proofs.first_near.Given as goal

abbrev pub invariant-loop-k : goal.invariant-loop-k
invariant-loop-k l = Meeting l.both (view_of l.pairs l.marks l.t) l.left l.right l.s.words l.seen_left.words l.front_left.words l.seen_right.words l.front_right.words l._k
