-- `wide_category` meets its contract.
use borrow.Author.Tests.{eq-eqb, ne_eqb}
use Rattle.ty.specs.Types.{wide_category}
use Rattle.ty.proofs.wide_category.Goals as goal

pub returns-then-category-eq-LONG : goal.returns-then-category-eq-LONG
unfolding wide_category
returns-then-category-eq-LONG c = simp (eq-eqb _ _ c.if-category-eq-LONG.true)

pub returns-else-category-eq-LONG : goal.returns-else-category-eq-LONG
unfolding wide_category
returns-else-category-eq-LONG c = simp (ne_eqb _ _ c.if-category-eq-LONG.false)
