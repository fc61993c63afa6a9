-- `has_to` meets its contract, test by test.
use borrow.Author.Tests.{le-leb, lt-leb}
use native.Mathlib.Omega.{arith}
use Rattle.utf8.specs.Seams.{due}
use Rattle.utf8.proofs.has_to.Goals as goal

pub returns-then-b-ge192 : goal.returns-then-b-ge192
unfolding due
returns-then-b-ge192 c =
    let a = c.args in
    rw (le-leb 0xC0 a.b (omega arith))

pub returns-then-a-ge224 : goal.returns-then-a-ge224
unfolding due
returns-then-a-ge224 c =
    let a = c.args in
    rw (lt-leb 0xC0 a.b (omega arith), le-leb 0xE0 a.a (omega arith))

pub returns-else-a-ge224 : goal.returns-else-a-ge224
unfolding due
returns-else-a-ge224 c =
    let a = c.args in
    rw (lt-leb 0xC0 a.b (omega arith), lt-leb 0xE0 a.a (omega arith))
