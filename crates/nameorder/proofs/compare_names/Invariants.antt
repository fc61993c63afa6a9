-- `compare_names` meets its contract. The invariant: the names are compared as their bytes from i on are.
use Rattle.std.proofs.Common.{◌≡◌, min, length, drop}
use Rattle.order.specs.Compare.{compare_lists}
use Rattle.nameorder.proofs.compare_names.Given as goal

abbrev pub invariant-loop-i : goal.invariant-loop-i
invariant-loop-i l = (l.i-end ≡ min (length l.a) (length l.b)) × (compare_lists l.a l.b ≡ compare_lists (drop l.i l.a) (drop l.i l.b))
