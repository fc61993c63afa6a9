-- `by_sequences` meets its contract. The loop's invariant: what was passed and the valid prefix from i on make up the valid prefix from the start.
-- The measure is what is left.
use mathlib.Core.Path.{◌≡◌}
use Prim.Native.Nat.{◌+◌, ◌-◌, ◌≤◌}
use lib.ListN.{length}
use lib.Seq.{slice}
use Rattle.utf8.specs.Utf8.{valid_prefix}
use Rattle.utf8.proofs.by_sequences.Given as goal

abbrev pub invariant-loop-i : goal.invariant-loop-i
invariant-loop-i l = (l.i ≤ l.to) × (l.to ≤ length l.s) × (l.from + valid_prefix (slice l.from l.to l.s) ≡ l.i + valid_prefix (slice l.i l.to l.s))

abbrev pub decreases-loop-i : goal.decreases-loop-i
decreases-loop-i l = l.to - l.i
