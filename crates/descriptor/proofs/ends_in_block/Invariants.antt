-- The test of a block meets its contract: after k bytes, `found` says whether the first ';' is among them.
use mathlib.Core.Path.{◌≡◌}
use Prim.Native.Nat.{◌+◌, ◌≤◌}
use lib.Dec.{ltb}
use lib.ListN.{length, drop}
use Rattle.descriptor.specs.Read.{index_of}
use Rattle.descriptor.proofs.ends_in_block.Given as goal

abbrev pub invariant-loop-k : goal.invariant-loop-k
invariant-loop-k l = (l.i + 8 ≤ length l.s) × (l.found ≡ ltb (index_of 59 (drop l.i l.s)) l.k)
