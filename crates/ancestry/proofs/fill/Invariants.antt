-- `fill` meets its contract: what leads through a class that is not left is there.
use mathlib.Core.Path.{◌≡◌}
use Prim.Native.Nat.{◌≤◌}
use lib.ListN.{length}
use Rattle.sets.specs.Sets.{at, members, first}
use Rattle.tables.specs.Table.{view_of}
use Rattle.ancestry.specs.Rows.{rows_room}
use Rattle.ancestry.specs.Closure.{Closing}
use Rattle.ancestry.proofs.fill.Given as goal

abbrev pub invariant-loop-k : goal.invariant-loop-k
invariant-loop-k l = (l.k ≡ first (at l.left.words) 1024) × (l.t.names ≤ 1024) × (length l.rows ≡ rows_room) × (length l.initial.left.words ≡ 16) × Closing (view_of l.pairs l.marks l.t) l.initial.left.words l.left.words l.rows

abbrev pub decreases-loop-k : goal.decreases-loop-k
decreases-loop-k l = length (members (at l.left.words) 0 1024)
