-- `ancestors_over` meets its contract: the refusal, or the ancestors over the table.
use Rattle.columns.specs.Given.{Given, given_of}
use Rattle.questions.specs.Laws.{ancestors-none, ancestors-all}
use Rattle.questions.proofs.ancestors_over.Goals as goal

pub returns-then-o-ne0 : goal.returns-then-o-ne0
returns-then-o-ne0 c =
    let a = c.args in
    let o = c.open_table-o in
    let g : Given = given_of a.columns.now in
    ancestors-none g a.class _ _ o.result o.ensures c.none_gathered.result c.none_gathered.ensures c.if-o-ne0.true

pub returns : goal.returns
returns c =
    let a = c.args in
    let o = c.open_table-o in
    let g : Given = given_of a.columns.now in
    ancestors-all g a.class _ _ o.result o.ensures _ c.gather.result c.gather.ensures c.if-o-ne0.false c.ancestors.ensures
