-- `ask_over` meets its contract: the refusal, or the answer over the table.
use Rattle.columns.specs.Given.{Given, given_of}
use Rattle.questions.specs.Laws.{no-rows, asked-none, numbers-asked, asked-value}
use Rattle.questions.proofs.ask_over.Goals as goal

pub returns-then-o-ne0 : goal.returns-then-o-ne0
returns-then-o-ne0 c =
    let o = c.open_table-o in
    let a = c.args in
    let g : Given = given_of a.columns.now in
    asked-none g a.q c.of_types-types.result c.of_types-types.ensures a.a a.b _ _ o.result o.ensures c.if-o-ne0.true

pub value_of-value-requires : goal.value_of-value-requires
value_of-value-requires c =
    let o = c.open_table-o in
    let a = c.args in
    let g : Given = given_of a.columns.now in
    let z = c.if-o-ne0.false in
    let r = o.ensures.ready z in
    (r.wide, r.fits, numbers-asked g a.q c.of_types-types.result c.of_types-types.ensures a.a a.b _ _ o.result o.ensures z, no-rows _ _ o.new.pairs c.requires.0 o.auto.pairs)

pub returns : goal.returns
returns c =
    let o = c.open_table-o in
    let a = c.args in
    let g : Given = given_of a.columns.now in
    asked-value g a.q c.of_types-types.result c.of_types-types.ensures a.a a.b _ _ o.result o.ensures c.if-o-ne0.false c.value_of-value.result c.value_of-value.ensures
