-- `build_table` meets its contract: unequal columns, or what the layers show.
use mathlib.Core.Path.{sym, ap, ◌∙◌}
use lib.ListN.{length}
use Rattle.columns.specs.Given.{even, given_of}
use Rattle.columns.specs.GivenLaws.{even-columns}
use Rattle.questions.specs.Laws.{even-shows, uneven-shows}
use Rattle.questions.proofs.build_table.Goals as goal

pub build_shown-requires : goal.build_shown-requires
build_shown-requires c = (even-columns c.args.columns.now (sym c.is_even.ensures ∙ c.if-is_even.true), c.requires.0, ap length c.requires.1)

pub returns-then-is_even : goal.returns-then-is_even
unfolding even
returns-then-is_even c =
    let a = c.args in
    even-shows (given_of a.columns.now) a.pairs.now a.marks.now _ _ c.requires.1 _ (sym c.is_even.ensures ∙ c.if-is_even.true) c.build_shown.ensures

pub returns : goal.returns
unfolding even
returns c =
    let a = c.args in
    uneven-shows (given_of a.columns.now) a.pairs.now a.marks.now a.pairs.now a.marks.now c.requires.1 _ (sym c.is_even.ensures ∙ c.if-is_even.false) c.no_table.ensures
