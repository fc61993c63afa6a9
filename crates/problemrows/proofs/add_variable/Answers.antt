-- `add_variable` meets its contract: refused, or at the end of the variables.
use mathlib.Core.Path.{sym, ◌∙◌}
use native.Mathlib.Omega.{arith}
use Rattle.problemrows.specs.Laws.{variable-room, variable-refused, variable-taken}
use Rattle.problemrows.proofs.add_variable.Goals as goal

pub returns-then-refusal-ne0 : goal.returns-then-refusal-ne0
returns-then-refusal-ne0 c =
    let a = c.args in
    let check = c.check_variable-refusal in
    variable-refused a.components a.component a.n a.variables.now c.requires.0 check.result check.ensures c.if-refusal-ne0.true

pub bounds-variables-n : goal.bounds-variables-n
bounds-variables-n c =
    let a = c.args in
    omega (arith, c.requires.1, (variable-room a.components a.n a.component (sym c.check_variable-refusal.ensures ∙ c.if-refusal-ne0.false)).1)

pub returns : goal.returns
returns c =
    let a = c.args in
    let check = c.check_variable-refusal in
    let room = variable-room a.components a.n a.component (sym check.ensures ∙ c.if-refusal-ne0.false) in
    variable-taken a.components a.component a.n a.variables.now c.requires.0 check.result check.ensures c.if-refusal-ne0.false (omega (arith, c.requires.1, room.1))
