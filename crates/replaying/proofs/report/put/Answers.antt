-- `put` meets its contract: nothing where there may be no room, else the lines of the names and the two after them.
use Rattle.std.proofs.Common.{[], length, arith}
use Rattle.lineout.specs.Laws.{puts-none, puts-as}
use Rattle.replaying.specs.Report.{report_in}
use Rattle.replaying.specs.ReportLaws.{report-long, report-narrow, report-put}
use Rattle.replaying.proofs.report.put.Goals as goal

pub returns-then-names-gt128 : goal.returns-then-names-gt128
returns-then-names-gt128 c =
    let a = c.args in
    let o = a.out.now in
    (puts-as [] (report_in a.names.now a.counts.now (length o)) 0 0 o o (report-long a.names.now a.counts.now (length o) c.if-names-gt128.true) (puts-none 0 o), omega arith)

pub returns-then-out-lt-ROOM : goal.returns-then-out-lt-ROOM
returns-then-out-lt-ROOM c =
    let a = c.args in
    let o = a.out.now in
    (puts-as [] (report_in a.names.now a.counts.now (length o)) 0 0 o o (report-narrow a.names.now a.counts.now (length o) c.if-out-lt-ROOM.true) (puts-none 0 o), omega arith)

pub returns : goal.returns
returns c =
    let a = c.args in
    let lines = c.put_names-m in
    let names = c.names_in in
    let sums = c.put_sums in
    let j = lines.auto.out in
    let k = sums.auto.out in
    let l = lines.ensures.1 in
    let s = sums.ensures.1 in
    let f = c.if-names-gt128.false in
    let n = c.if-out-lt-ROOM.false in
    (report-put a.names.now a.counts.now _ names.result _ a.out.now _ _ f n (omega arith) names.ensures.0 lines.ensures.0 sums.ensures.0, omega arith)
