-- `cast` meets its contract.
use mathlib.Core.Path.{sym, ◌∙◌}
use Rattle.hierarchy.proofs.Answers.{cast-up, cast-down, cast-facts}
use Rattle.hierarchy.proofs.cast.Goals as goal

pub returns-then-is_ancestor : goal.returns-then-is_ancestor
returns-then-is_ancestor c =
    let a = c.args in
    cast-up a.pairs.now a.marks.now a.t a.source a.target (sym c.is_ancestor.ensures ∙ c.if-is_ancestor.true)

pub returns-then-is_ancestor-2 : goal.returns-then-is_ancestor-2
returns-then-is_ancestor-2 c =
    let a = c.args in
    cast-down a.pairs.now a.marks.now a.t a.source a.target (sym c.is_ancestor.ensures ∙ c.if-is_ancestor.false)
    (sym c.is_ancestor-2.ensures ∙ c.if-is_ancestor-2.true)

pub returns : goal.returns
returns c =
    let a = c.args in
    c.cast_by_facts.ensures
    ∙ cast-facts a.pairs.now a.marks.now a.t a.source a.target (sym c.is_ancestor.ensures ∙ c.if-is_ancestor.false)
    (sym c.is_ancestor-2.ensures ∙ c.if-is_ancestor-2.false)
