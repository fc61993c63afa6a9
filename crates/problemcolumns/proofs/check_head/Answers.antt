-- `check_head` meets its contract: the refusal of the count, or of the variables.
use Rattle.problemcolumns.specs.Steps.{head-count, head-variables}
use Rattle.problemcolumns.proofs.check_head.Goals as goal

pub returns-then-refusal-ne0 : goal.returns-then-refusal-ne0
returns-then-refusal-ne0 c =
    let a = c.args in
    let count = c.check_count-refusal in
    head-count a.components a.var_comp.now count.result count.ensures c.if-refusal-ne0.true

pub returns : goal.returns
returns c =
    let a = c.args in
    let count = c.check_count-refusal in
    head-variables a.components a.var_comp.now count.result count.ensures c.if-refusal-ne0.false c.check_variables.result c.check_variables.ensures
