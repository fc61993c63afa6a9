-- The test of a block meets its contract: the names differ in it where they differ in its first k bytes or in the rest.
use mathlib.Core.Path.{◌≡◌}
use mathlib.Core.Bool.{◌||◌}
use Prim.Native.Nat.{◌+◌, ◌≤◌}
use lib.ListN.{length}
use lib.Seq.{slice}
use Rattle.nameorder.proofs.Block.{differ}
use Rattle.nameorder.proofs.differ_in_block.Given as goal

abbrev pub invariant-loop-k : goal.invariant-loop-k
invariant-loop-k l = (l.i + 8 ≤ length l.a) × (l.i + 8 ≤ length l.b)
    × (differ (slice l.i (l.i + 8) l.a) (slice l.i (l.i + 8) l.b) ≡ (l.differ || differ (slice (l.i + l.k) (l.i + 8) l.a) (slice (l.i + l.k) (l.i + 8) l.b)))
