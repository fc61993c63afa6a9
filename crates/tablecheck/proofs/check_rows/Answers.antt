-- `check_rows` meets its contract: the refused row, else the lack of Object.
use mathlib.Core.Path.{ap, ◌∙◌}
use Rattle.columns.specs.Given.{Given, given_of}
use Rattle.rows.specs.declared.Outcome.{Outcome}
use Rattle.tablecheck.specs.Steps.{check-object, check-none, equal-even}
use Rattle.tablecheck.proofs.check_rows.Goals as goal

pub find_row-requires : goal.find_row-requires
find_row-requires c = (c.requires, λ z. c.if-whole-ne0.true (ap (λ (o : Outcome). o.refusal) c.build_rows-whole.ensures ∙ z))

pub returns-then-whole-ne0 : goal.returns-then-whole-ne0
returns-then-whole-ne0 c = c.find_row.ensures

pub returns-then-t : goal.returns-then-t
returns-then-t c =
    let a = c.args in
    let whole = c.build_rows-whole in
    let g : Given = given_of a.columns.now in
    check-object g whole.result whole.ensures c.if-whole-ne0.false (equal-even g c.requires.0 c.requires.1) c.if-t.true

pub returns : goal.returns
returns c =
    let a = c.args in
    let whole = c.build_rows-whole in
    let g : Given = given_of a.columns.now in
    check-none g whole.result whole.ensures c.if-whole-ne0.false (equal-even g c.requires.0 c.requires.1) c.if-t.false
