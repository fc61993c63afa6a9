-- `check_variables` meets its contract: what is left are the variables from i on, those before them taken.
use mathlib.Core.Path.{refl, sym, ap, ◌∙◌}
use native.Mathlib.Omega.{arith}
use Rattle.problemrows.specs.ProblemRows.{Ran}
use Rattle.problemcolumns.specs.Steps.{variables-end, variables-stop, variables-step}
use Rattle.problemcolumns.proofs.check_variables.Goals as goal

pub loop-i-init : goal.loop-i-init
loop-i-init c = (omega arith, refl)

pub returns-then-refusal-ne0 : goal.returns-then-refusal-ne0
returns-then-refusal-ne0 c =
    let a = c.args in
    let l = c.loop-i in
    let check = c.check_variable-refusal in
    let stop = variables-stop a.components a.var_comp.now l.i c.loop-i-test.true check.result check.ensures c.if-refusal-ne0.true in
    sym (ap (λ (s : Ran). s.refusal) (l.invariant.1 ∙ stop))

pub loop-i-preserved : goal.loop-i-preserved
loop-i-preserved c =
    let a = c.args in
    let l = c.loop-i in
    let h = c.loop-i-test.true in
    let check = c.check_variable-refusal in
    (omega (arith, h), l.invariant.1 ∙ variables-step a.components a.var_comp.now l.i h check.result check.ensures c.if-refusal-ne0.false)

pub returns : goal.returns
returns c =
    let a = c.args in
    let l = c.loop-i in
    sym (ap (λ (s : Ran). s.refusal) (l.invariant.1 ∙ variables-end a.components a.var_comp.now l.i (omega arith)))
