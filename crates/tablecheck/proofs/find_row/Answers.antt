-- `find_row` meets its contract: the names' refusal, else the records'.
use mathlib.Core.Path.{sym, subst}
use Rattle.columns.specs.Given.{Given, given_of}
use Rattle.rows.specs.declared.Outcome.{Outcome}
use Rattle.tablecheck.specs.Inside.{Fresh}
use Rattle.tablecheck.specs.Steps.{names-fresh, check-name, check-record}
use Rattle.tablecheck.proofs.find_row.Goals as goal

pub build_names-named-requires : goal.build_names-named-requires
build_names-named-requires c = c.requires.0.0

pub returns-then-named-ne0 : goal.returns-then-named-ne0
returns-then-named-ne0 c =
    let a = c.args in
    let named = c.build_names-named in
    let g : Given = given_of a.columns.now in
    check-name g named.result named.ensures c.if-named-ne0.true

pub check_records-stop-requires : goal.check_records-stop-requires
check_records-stop-requires c =
    let a = c.args in
    let named = c.build_names-named in
    let g : Given = given_of a.columns.now in
    (c.requires.0.1, subst (λ (o : Outcome). Fresh o.tables) (sym named.ensures) (names-fresh g))

pub returns : goal.returns
returns c =
    let a = c.args in
    let named = c.build_names-named in
    let stop = c.check_records-stop in
    let g : Given = given_of a.columns.now in
    check-record g named.result named.ensures c.if-named-ne0.false stop.result stop.ensures c.requires.1
