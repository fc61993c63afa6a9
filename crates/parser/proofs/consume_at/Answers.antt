-- `parser::consume_at` meets its contract: the tests say which case of `consume_at` holds.
use borrow.Author.Tests.{lt-ltb, le-ltb, eq-eqb, ne_eqb}
use Rattle.parser.proofs.consume_at.Goals as goal

pub returns-then-s-at : goal.returns-then-s-at
returns-then-s-at c = simp (le-ltb _ _ c.if-s-at.true)

pub returns-then-s-at-2 : goal.returns-then-s-at-2
returns-then-s-at-2 c = simp (lt-ltb _ _ c.if-s-at.false, eq-eqb _ _ c.if-s-at-2.true)

pub returns : goal.returns
returns c = simp (lt-ltb _ _ c.if-s-at.false, ne_eqb _ _ c.if-s-at-2.false)
