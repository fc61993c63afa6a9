-- `put_names` meets its contract: what is left are the names from the next byte on.
use Rattle.std.proofs.Common.{ℕ, ◌+◌, List, get_or, drop, subst, arith}
use Rattle.lineout.specs.Laws.{Writing, writing-start}
use Rattle.replaying.specs.Report.{counts_of, next_text, names_text}
use Rattle.replaying.specs.ReportLaws.{writing-on, writing-last, next-small, names-step, names-end}
use Rattle.replaying.proofs.report.put_names.Goals as goal

pub loop-b-init : goal.loop-b-init
loop-b-init c = let a = c.args in (omega arith, omega arith, writing-start (names_text a.counts.now 0 a.names.now) a.at a.out.now)

pub loop-b-preserved : goal.loop-b-preserved
loop-b-preserved c =
    let a = c.args in
    let p = c.requires in
    let l = c.loop-b in
    let i = l.b-index in
    let put = c.put_next-m in
    let next = c.next_name-k in
    let counts = a.counts.now in
    let names = a.names.now in
    let b = get_or names i 0 in
    let whole = names_text counts 0 names in
    let f = subst (λ (t : List ℕ). Writing whole t a.at l.m a.out.now l.out) (names-step counts l.k next.result i names next.ensures (omega arith)) l.invariant.2 in
    let g = writing-on whole (next_text counts l.k b) (names_text counts next.result (drop (i + 1) names)) a.at l.m _ a.out.now l.out _ (omega arith) f put.ensures.0 in
    let small = next-small l.k b in
    let e = next.ensures in
    let x = put.ensures.1 in
    (omega arith, omega arith, g)

pub returns : goal.returns
returns c =
    let a = c.args in
    let p = c.requires in
    let l = c.loop-b in
    let put = c.put_counts in
    let counts = a.counts.now in
    let names = a.names.now in
    let whole = names_text counts 0 names in
    let f = subst (λ (t : List ℕ). Writing whole t a.at l.m a.out.now l.out) (names-end counts l.k l.b-index names (omega arith)) l.invariant.2 in
    let x = put.ensures.1 in
    (writing-last whole (counts_of counts l.k) a.at l.m _ a.out.now l.out _ (omega arith) f put.ensures.0, omega arith)
