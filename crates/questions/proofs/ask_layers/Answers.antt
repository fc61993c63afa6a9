-- `ask_layers` meets its contract: what the table tells that was opened in an array with room for four layers.
use borrow.Author.Rules.{rules}
use Rattle.columns.specs.Given.{Given, given_of}
use Rattle.layercolumns.specs.Laws.{room-layers}
use Rattle.questions.specs.Laws.{layers-no-rows, opened-askable, opened-tells}
use Rattle.questions.proofs.ask_layers.Goals as goal

pub open_table-o-requires : goal.open_table-o-requires
open_table-o-requires c = (room-layers _ _ (search rules), search rules)

pub tell-requires : goal.tell-requires
tell-requires c =
    let a = c.args in
    let g : Given = given_of a.columns.now in
    let t = c.of_types-types in
    let o = c.open_table-o in
    opened-askable g a.set a.q t.result t.ensures a.a a.b c.requires _ _ o.result o.ensures (layers-no-rows o.new.pairs (search rules))

pub returns : goal.returns
returns c =
    let a = c.args in
    let g : Given = given_of a.columns.now in
    let t = c.of_types-types in
    let o = c.open_table-o in
    opened-tells g a.set a.q t.result t.ensures a.a a.b c.requires _ _ o.result o.ensures _ _ c.tell.ensures
