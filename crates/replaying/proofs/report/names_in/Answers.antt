-- `names_in` meets its contract: one more than the blanks.
use Rattle.std.proofs.Common.{◌≡◌, ℕ, ◌+◌, ◌≤◌, length, rules, ap, ◌∙◌, arith}
use Rattle.std.specs.Prelude.{◌==◌}
use Rattle.std.specs.List.{count_by}
use Rattle.replaying.specs.ReportLaws.{names-counted}
use Rattle.replaying.proofs.report.names_in.Goals as goal

pub returns : goal.returns
returns c =
    let names = c.args.names.now in
    let e : c.count.result ≡ count_by (λ (b : ℕ). b == 32) names = search rules in
    (ap (λ (n : ℕ). 1 + n) e ∙ names-counted names, let f : c.count.result ≤ length names = search rules in omega arith)
