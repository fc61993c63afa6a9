-- `rows_refusal` meets its contract: the rows' refusal, no Object, or none.
use Rattle.solvechecks.specs.Steps.{rows-refused, rows-object, rows-none}
use Rattle.solvechecks.proofs.rows_refusal.Goals as goal

pub returns-then-refusal-ne0 : goal.returns-then-refusal-ne0
returns-then-refusal-ne0 c =
    let a = c.args in
    rows-refused a.refusal a.object c.if-refusal-ne0.true

pub returns-then-object-eq18446744073709551615 : goal.returns-then-object-eq18446744073709551615
returns-then-object-eq18446744073709551615 c =
    let a = c.args in
    rows-object a.refusal a.object c.if-refusal-ne0.false c.if-object-eq18446744073709551615.true

pub returns : goal.returns
returns c =
    let a = c.args in
    rows-none a.refusal a.object c.if-refusal-ne0.false c.if-object-eq18446744073709551615.false
