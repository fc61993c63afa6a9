-- `put_sums` meets its contract: the four numbers are the counts of the last two lines.
use Rattle.std.proofs.Common.{ℕ, List, [], ◌∷◌, ap, arith}
use Rattle.lineout.specs.Laws.{puts-as}
use Rattle.replaying.specs.Report.{names_text, sums_of, unread_all}
use Rattle.replaying.specs.ReportLaws.{sums-are}
use Rattle.replaying.proofs.report.put_sums.Goals as goal

pub returns : goal.returns
returns c =
    let a = c.args in
    let unread = c.number_at-unread in
    let agree = c.sum-agree in
    let cases = c.sum in
    let all = c.wrapping_add_u64-all in
    let put = c.put_names in
    let x = put.ensures.1 in (
      puts-as (names_text (0 ∷ unread.result ∷ agree.result ∷ all.result ∷ []) 0 unread_all) (names_text (sums_of a.counts.now a.n) 0 unread_all) a.at _ a.out.now _
          (ap (λ (l : List ℕ). names_text l 0 unread_all) (sums-are a.counts.now a.n _ _ cases.result _ unread.ensures agree.ensures cases.ensures all.ensures.value)) put.ensures.0,
      omega arith,
    )
