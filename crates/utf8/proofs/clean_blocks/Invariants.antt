-- `clean_blocks` meets its contract: each block goes on from what is clean, and the last one begins within it.
use Prim.Native.Nat.{◌+◌, ◌-◌, ◌≤◌}
use lib.ListN.{length}
use Rattle.utf8.specs.Seams.{Clean}
use Rattle.utf8.proofs.clean_blocks.Given as goal

abbrev pub invariant-loop-i : goal.invariant-loop-i
invariant-loop-i l = (l.from ≤ l.i) × (l.i + 2 ≤ l.to) × (l.from + 18 ≤ l.to) × (l.to ≤ length l.s) × Clean l.s l.from l.i

abbrev pub decreases-loop-i : goal.decreases-loop-i
decreases-loop-i l = l.to - l.i
