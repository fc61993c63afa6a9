-- `lowest_by_walks` meets its contract: what is out has one strictly below, and d is one that is to be looked at.
use lib.ListN.{length}
use Rattle.sets.specs.Sets.{at, members}
use Rattle.tables.specs.Table.{view_of}
use Rattle.supertype.specs.Stripped.{Starts}
use Rattle.view.specs.Lows.{Lowing}
use Rattle.supertype.proofs.lowest_by_walks.Given as goal

abbrev pub invariant-loop-d : goal.invariant-loop-d
invariant-loop-d l = Starts l.d l.todo.words × Lowing (view_of l.pairs l.marks l.t) l.initial.alive.words l.alive.words l.todo.words

abbrev pub decreases-loop-d : goal.decreases-loop-d
decreases-loop-d l = length (members (at l.todo.words) 0 1024)
