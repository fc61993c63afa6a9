-- `is_ancestor` meets its contract.
use borrow.Author.Tests.{eq-eqb, ne_eqb}
use mathlib.Core.Path.{sym, ◌∙◌}
use Rattle.view.specs.View.{ancestor}
use Rattle.tables.specs.Table.{view_of}
use Rattle.hierarchy.proofs.Walks.{tells}
use Rattle.hierarchy.proofs.is_ancestor.Goals as goal

pub returns-then-value-expected : goal.returns-then-value-expected
unfolding ancestor
returns-then-value-expected c = simp (eq-eqb _ _ c.if-value-expected.true)

pub returns-then-expected-t : goal.returns-then-expected-t
unfolding ancestor
returns-then-expected-t c = simp (ne_eqb _ _ c.if-value-expected.false, eq-eqb _ _ c.if-expected-t.true)

pub returns : goal.returns
unfolding ancestor
returns c =
    let a = c.args in
    let w = c.walk_to-up in
    c.is_some.ensures ∙ tells (view_of a.pairs.now a.marks.now a.t) a.value a.expected w.result.level w.ensures.at-level
    ∙ sym (simp (ne_eqb _ _ c.if-value-expected.false, ne_eqb _ _ c.if-expected-t.false))
