-- `add_bounds` meets its contract: what is left are the rows from i on; the keys so far stand in front of the slice as it came.
use mathlib.Core.Path.{◌≡◌}
use mathlib.Core.List.{[]}
use Prim.Native.Nat.{◌-◌, ◌≤◌}
use lib.ListN.{length, take, drop}
use Rattle.sorted.specs.Sorted.{Sorted}
use Rattle.rows.specs.Rows.{filled}
use Rattle.problemcolumns.specs.Runs.{bound_run}
use Rattle.problemcolumns.proofs.add_bounds.Given as goal

abbrev pub invariant-loop-i : goal.invariant-loop-i
invariant-loop-i l = (l.i ≤ length l.bnd_comp) × (length l.bnd_comp ≡ length l.bnd_kind) × (length l.bnd_comp ≡ length l.bnd_type) × (l.n ≤ 4096) × (4096 ≤ length l.bounds) × (length l.bounds ≡ length l.initial.bounds)
    × Sorted (take l.n l.bounds) × (l.bounds ≡ filled (take l.n l.bounds) l.initial.bounds)
    × (bound_run l.names l.components l.bnd_comp l.bnd_kind l.bnd_type [] ≡ bound_run l.names l.components (drop l.i l.bnd_comp) (drop l.i l.bnd_kind) (drop l.i l.bnd_type) (take l.n l.bounds))

abbrev pub decreases-loop-i : goal.decreases-loop-i
decreases-loop-i l = length l.bnd_comp - l.i
