-- `sum` meets its contract: what is added so far is the sum of the first k.
use Rattle.std.proofs.Common.{◌≡◌, ℕ, ◌+◌, ◌*◌, ◌%◌, ◌^◌, get_or, refl, ap, ◌∙◌, arith}
use Rattle.replaying.specs.Report.{total}
use Rattle.replaying.specs.ReportLaws.{total-step}
use Rattle.replaying.proofs.report.sum.Goals as goal

pub loop-k-init : goal.loop-k-init
unfolding total
loop-k-init c = refl

pub loop-k-preserved : goal.loop-k-preserved
loop-k-preserved c =
    let a = c.args in
    let l = c.loop-k in
    let n = get_or a.counts.now (2 * l.k + a.first) 0 in
    c.wrapping_add_u64-s.ensures.value ∙ ap (λ (x : ℕ). (l.s + x) % 2 ^ 64) c.number_at.ensures ∙ ap (λ (x : ℕ). (x + n) % 2 ^ 64) l.invariant ∙ total-step a.counts.now a.first l.k

pub returns : goal.returns
returns c =
    let a = c.args in
    let l = c.loop-k in
    l.invariant ∙ ap (total a.counts.now a.first) (let e : l.k ≡ a.n = omega arith in e)
