-- `begin` meets its contract: the rows of the classes that are left are empty.
use mathlib.Core.Path.{◌≡◌}
use lib.ListN.{length}
use Rattle.sets.specs.Sets.{at, members, first}
use Rattle.tables.specs.Table.{view_of}
use Rattle.ancestry.specs.Rows.{rows_room}
use Rattle.ancestry.specs.Closure.{Based}
use Rattle.ancestry.proofs.begin.Given as goal

abbrev pub invariant-loop-c : goal.invariant-loop-c
invariant-loop-c l = (l.c ≡ first (at l.left.words) 1024) × (length l.rows ≡ rows_room) × (length l.initial.left.words ≡ 16) × Based (view_of l.pairs l.marks l.t) l.initial.left.words l.left.words l.rows

abbrev pub decreases-loop-c : goal.decreases-loop-c
decreases-loop-c l = length (members (at l.left.words) 0 1024)
