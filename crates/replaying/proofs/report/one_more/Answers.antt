-- `one_more` meets its contract: past the end nothing is written.
use Rattle.std.proofs.Common.{arith}
use Rattle.replaying.proofs.Steps.{more-at, more-out}
use Rattle.replaying.proofs.report.one_more.Goals as goal

pub returns-then-at-counts : goal.returns-then-at-counts
returns-then-at-counts c =
    let a = c.args in
    more-at a.at c.wrapping_add_u64.result a.counts.now c.wrapping_add_u64.ensures.value

pub returns-else-at-counts : goal.returns-else-at-counts
returns-else-at-counts c =
    let a = c.args in
    more-out a.at a.counts.now (omega arith)
