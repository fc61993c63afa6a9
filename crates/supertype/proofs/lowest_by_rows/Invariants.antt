-- `lowest_by_rows` meets its contract: what is out has one strictly below, and d is the least that is to be looked at.
use mathlib.Core.Path.{◌≡◌}
use lib.ListN.{length}
use Rattle.sets.specs.Sets.{at, members, first}
use Rattle.tables.specs.Table.{view_of}
use Rattle.view.specs.Lows.{Lowing}
use Rattle.supertype.proofs.lowest_by_rows.Given as goal

abbrev pub invariant-loop-d : goal.invariant-loop-d
invariant-loop-d l = (l.d ≡ first (at l.todo.words) 1024) × Lowing (view_of l.pairs l.marks l.t) l.initial.alive.words l.alive.words l.todo.words

abbrev pub decreases-loop-d : goal.decreases-loop-d
decreases-loop-d l = length (members (at l.todo.words) 0 1024)
