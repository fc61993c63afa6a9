-- `differ` meets its contract, test by test.
use borrow.Author.Tests.{eq-eqb, ne_eqb}
use Rattle.utf8.specs.Seams.{unlike}
use Rattle.utf8.proofs.differ.Goals as goal

pub returns-then-m-n : goal.returns-then-m-n
unfolding unlike
returns-then-m-n c = rw (eq-eqb _ _ c.if-m-n.true)

pub returns-else-m-n : goal.returns-else-m-n
unfolding unlike
returns-else-m-n c = rw (ne_eqb _ _ c.if-m-n.false)
