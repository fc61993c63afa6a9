-- `sum` meets its contract: what is added so far is the sum of the first k.
use Rattle.std.proofs.Common.{◌≡◌}
use Rattle.replaying.specs.Report.{total}
use Rattle.replaying.proofs.report.sum.Given as goal

abbrev pub invariant-loop-k : goal.invariant-loop-k
invariant-loop-k l = l.s ≡ total l.counts l.first l.k
