-- `clean_block` meets its contract: after k bytes, `bad` is the number of their faults.
use Rattle.std.proofs.Common.{◌≡◌}
use Rattle.utf8.specs.Seams.{faults}
use Rattle.utf8.proofs.clean_block.Given as goal

abbrev pub invariant-loop-k : goal.invariant-loop-k
invariant-loop-k l = l.bad ≡ faults l.s l.i l.k
