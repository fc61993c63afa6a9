-- `check_table` meets its contract: unequal columns, or what the rows come to.
use mathlib.Core.Path.{sym, ◌∙◌}
use Rattle.columns.specs.Given.{Given, even, given_of}
use Rattle.columns.specs.GivenLaws.{even-columns}
use Rattle.tablecheck.specs.Steps.{check-even, check-uneven}
use Rattle.tablecheck.proofs.check_table.Goals as goal

pub check_rows-requires : goal.check_rows-requires
check_rows-requires c = even-columns c.args.columns.now (sym c.is_even.ensures ∙ c.if-is_even.true)

pub returns-then-is_even : goal.returns-then-is_even
unfolding even
returns-then-is_even c =
    let a = c.args in
    let g : Given = given_of a.columns.now in
    c.check_rows.ensures ∙ check-even g (sym c.is_even.ensures ∙ c.if-is_even.true)

pub returns : goal.returns
unfolding even
returns c =
    let a = c.args in
    let g : Given = given_of a.columns.now in
    check-uneven g (sym c.is_even.ensures ∙ c.if-is_even.false)
