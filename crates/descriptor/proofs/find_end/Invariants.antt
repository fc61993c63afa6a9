-- The search for a ';' meets its contract: what is left of the search from `from` is the search from `i`.
use mathlib.Core.Path.{◌≡◌}
use Prim.Native.Nat.{◌+◌, ◌-◌, ◌≤◌}
use lib.ListN.{length, drop}
use Rattle.descriptor.specs.Read.{index_of}
use Rattle.descriptor.proofs.find_end.Given as goal

abbrev pub invariant-loop-i : goal.invariant-loop-i
invariant-loop-i l = (l.i ≤ length l.s) × (l.from + index_of 59 (drop l.from l.s) ≡ l.i + index_of 59 (drop l.i l.s))

abbrev pub decreases-loop-i : goal.decreases-loop-i
decreases-loop-i l = length l.s - l.i
