-- `walk_to` meets its contract: at each turn the walk stands at level k.
use Rattle.tables.specs.Table.{view_of}
use Rattle.hierarchy.proofs.Walks.{Standing}
use Rattle.hierarchy.proofs.walk_to.Given as goal

abbrev pub invariant-loop-k : goal.invariant-loop-k
invariant-loop-k l = Standing (view_of l.pairs l.marks l.t) l.x l.y l.seen.words l.front.words l.k
