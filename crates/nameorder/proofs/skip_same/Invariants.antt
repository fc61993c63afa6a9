-- The passing of equal blocks meets its contract: the names stand to each other as they do from i on.
use mathlib.Core.Path.{◌≡◌}
use Prim.Native.Nat.{◌-◌, ◌≤◌}
use lib.ListN.{length, drop}
use Rattle.order.specs.Compare.{compare_lists}
use Rattle.nameorder.proofs.skip_same.Given as goal

abbrev pub invariant-loop-i : goal.invariant-loop-i
invariant-loop-i l = (l.n ≤ length l.a) × (l.n ≤ length l.b) × (l.i ≤ l.n) × (compare_lists l.a l.b ≡ compare_lists (drop l.i l.a) (drop l.i l.b))

abbrev pub decreases-loop-i : goal.decreases-loop-i
decreases-loop-i l = l.n - l.i
