-- `add_pairs` meets its contract: what is left are the rows from i on; the pairs so far stand in front of the slice as it came.
use mathlib.Core.Path.{◌≡◌}
use mathlib.Core.List.{[]}
use Prim.Native.Nat.{◌-◌, ◌≤◌}
use lib.ListN.{length, take, drop}
use Rattle.sorted.specs.Sorted.{Sorted}
use Rattle.rows.specs.Rows.{filled}
use Rattle.problemcolumns.specs.Runs.{pair_run}
use Rattle.problemcolumns.proofs.add_pairs.Given as goal

abbrev pub invariant-loop-i : goal.invariant-loop-i
invariant-loop-i l = (l.i ≤ length l.firsts) × (length l.firsts ≡ length l.seconds) × (l.n ≤ l.room) × (l.room ≤ length l.pairs) × (length l.pairs ≡ length l.initial.pairs)
    × Sorted (take l.n l.pairs) × (l.pairs ≡ filled (take l.n l.pairs) l.initial.pairs)
    × (pair_run l.components l.room l.firsts l.seconds [] ≡ pair_run l.components l.room (drop l.i l.firsts) (drop l.i l.seconds) (take l.n l.pairs))

abbrev pub decreases-loop-i : goal.decreases-loop-i
decreases-loop-i l = length l.firsts - l.i
