-- `through` meets its contract: the rows below i are done.
use mathlib.Core.Path.{◌≡◌}
use Prim.Native.Nat.{◌≤◌, ◌<◌}
use lib.ListN.{length}
use Rattle.ancestry.specs.Rows.{rows_room, row, Passing}
use Rattle.ancestry.proofs.through.Given as goal

abbrev pub invariant-loop-i : goal.invariant-loop-i
invariant-loop-i l = (l.names ≤ 1024) × (l.k < 1024) × (length l.rows ≡ rows_room) × (l.via.words ≡ row l.initial.rows l.k) × Passing l.initial.rows l.k l.rows l.i
