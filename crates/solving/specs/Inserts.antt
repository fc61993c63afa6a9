-- Insertions and turns, one step at a time: what an insertion does, and two laws by which a fact that insertions keep is kept by a
-- turn, and one that taking the front keeps too by a run.
use Rattle.std.specs.Prelude.{◌≡◌, length}
use Rattle.std.proofs.Math.Bool.{false}
use mathlib.Core.List.Memᴰ
use mathlib.Core.List.{List, Memᴰ}
use Prim.Native.Nat.{◌≤◌, ◌<◌}
use Rattle.ty.specs.Types.{depth}
use Rattle.solving.specs.Ordered.{present}
use Rattle.solving.specs.Solving.{Bound, Table, compare_bounds, room}

-- ---- one insertion

-- a new bound in a table with room
pub record New (b : Bound) (table : Table) : Type 0 where
  pub flat : depth b.type ≤ 255
  pub absent : present compare_bounds b table ≡ false
  pub fits : length table < room
