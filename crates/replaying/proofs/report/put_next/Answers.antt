-- `put_next` meets its contract: a blank ends the name.
use Rattle.std.proofs.Common.{[], ◌∷◌, arith}
use Rattle.lineout.specs.Laws.{puts-as}
use Rattle.replaying.specs.Report.{counts_of, next_text}
use Rattle.replaying.specs.ReportLaws.{next-blank, next-byte}
use Rattle.replaying.proofs.report.put_next.Goals as goal

pub returns-then-b-eq32 : goal.returns-then-b-eq32
returns-then-b-eq32 c =
    let a = c.args in
    let put = c.put_counts in
    (puts-as (counts_of a.counts.now a.k) (next_text a.counts.now a.k a.b) a.at _ a.out.now _ (next-blank a.counts.now a.k a.b c.if-b-eq32.true) put.ensures.0, put.ensures.1)

pub returns : goal.returns
returns c =
    let a = c.args in
    let put = c.put_byte in
    let e = put.ensures.filled-is in
    (puts-as (a.b ∷ []) (next_text a.counts.now a.k a.b) a.at _ a.out.now _ (next-byte a.counts.now a.k a.b c.if-b-eq32.false) put.ensures, omega arith)
