-- `refuse_lengths` meets its contract: the work as it came for 22, else cleared.
use mathlib.Core.Path.{◌∙◌}
use Rattle.solvechecks.specs.Steps.{work-kept, work-cleared}
use Rattle.solvechecks.proofs.refuse_lengths.Goals as goal

pub returns-then-code-eq-SHORT : goal.returns-then-code-eq-SHORT
returns-then-code-eq-SHORT c =
    let a = c.args in
    (c.refused.ensures, work-kept a.code a.work.now c.if-code-eq-SHORT.true)

pub returns : goal.returns
returns c =
    let a = c.args in
    let f = c.refuse.ensures in
    (f.0, f.1 ∙ work-cleared a.code a.work.now c.if-code-eq-SHORT.false)
