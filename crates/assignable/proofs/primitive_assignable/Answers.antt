-- `primitive_assignable` meets its contract.
use mathlib.Core.Path.{sym, ◌∙◌}
use borrow.Author.Tests.{eq-eqb, ne_eqb, lt-ltb, le-ltb}
use Rattle.assignable.specs.Primitives.{by_order, widens-by-order}
use Rattle.assignable.proofs.primitive_assignable.Goals as goal

pub returns-then-expected-eq4 : goal.returns-then-expected-eq4
unfolding by_order
returns-then-expected-eq4 c = sym (widens-by-order _ _ ∙ simp (eq-eqb _ _ c.if-expected-eq4.true))

pub returns-then-expected-gt8 : goal.returns-then-expected-gt8
unfolding by_order
returns-then-expected-gt8 c = sym (widens-by-order _ _ ∙ simp (ne_eqb _ _ c.if-expected-eq4.false, lt-ltb _ _ c.if-expected-gt8.true))

pub returns-then-value-lt2 : goal.returns-then-value-lt2
unfolding by_order
returns-then-value-lt2 c = sym (widens-by-order _ _ ∙ simp (ne_eqb _ _ c.if-expected-eq4.false, le-ltb _ _ c.if-expected-gt8.false, lt-ltb _ _ c.if-value-lt2.true))

pub returns : goal.returns
unfolding by_order
returns c = sym (widens-by-order _ _ ∙ simp (ne_eqb _ _ c.if-expected-eq4.false, le-ltb _ _ c.if-expected-gt8.false, le-ltb _ _ c.if-value-lt2.false))
