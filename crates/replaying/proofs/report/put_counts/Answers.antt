-- `put_counts` meets its contract: two numbers and the end of the line.
use Rattle.std.proofs.Common.{ℕ, ap₂, arith}
use Rattle.lineout.specs.Laws.{puts-as}
use Rattle.replaying.specs.Report.{counts_text, counts_of}
use Rattle.replaying.specs.ReportLaws.{counts-put}
use Rattle.replaying.proofs.report.put_counts.Goals as goal

pub returns : goal.returns
returns c =
    let p = c.requires.0 in
    let a = c.args in
    let agree = c.number_at in
    let one = c.put_field-m in
    let all = c.number_at-2 in
    let two = c.put_field-n in
    let end = c.put_byte in
    let x = one.ensures.1 in
    let y = two.ensures.1 in
    let z = end.ensures.filled-is in (
      puts-as (counts_text agree.result all.result) (counts_of a.counts.now a.k) a.at _ a.out.now _ (ap₂ (λ (m n : ℕ). counts_text m n) agree.ensures all.ensures)
          (counts-put agree.result all.result a.at _ _ _ a.out.now _ _ _ (omega arith) one.ensures.0 two.ensures.0 end.ensures),
      omega arith,
    )
