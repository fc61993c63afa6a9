-- `open_table` meets its contract: the slices hold what the rows say where nothing is refused.
use Rattle.columns.specs.Given.{given_of}
use Rattle.questions.specs.Laws.{opens}
use Rattle.questions.proofs.open_table.Goals as goal

pub returns : goal.returns
returns c =
    let a = c.args in
    let t = c.build_table-o in
    let k = c.with_checks in
    opens (given_of a.columns.now) a.types a.a a.b _ _ t.result t.ensures k.result k.ensures.0 k.ensures.1
