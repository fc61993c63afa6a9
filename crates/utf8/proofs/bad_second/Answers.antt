-- `bad_second` meets its contract, test by test.
use borrow.Author.Tests.{eq-eqb, ne_eqb, lt-ltb, le-ltb}
use native.Mathlib.Omega.{arith}
use Rattle.utf8.specs.Seams.{misfit}
use Rattle.utf8.proofs.bad_second.Goals as goal

pub returns-then-c-lt160 : goal.returns-then-c-lt160
unfolding misfit
returns-then-c-lt160 c =
    let a = c.args in
    rw (eq-eqb a.b 0xE0 (omega arith), lt-ltb a.c 0xA0 (omega arith))

pub returns-else-c-lt160 : goal.returns-else-c-lt160
unfolding misfit
returns-else-c-lt160 c =
    let a = c.args in
    rw (eq-eqb a.b 0xE0 (omega arith), le-ltb a.c 0xA0 (omega arith))

pub returns-then-c-lt160-2 : goal.returns-then-c-lt160-2
unfolding misfit
returns-then-c-lt160-2 c =
    let a = c.args in
    rw (ne_eqb a.b 0xE0 c.if-b-eq224.false, eq-eqb a.b 0xED (omega arith), lt-ltb a.c 0xA0 (omega arith))

pub returns-else-c-lt160-2 : goal.returns-else-c-lt160-2
unfolding misfit
returns-else-c-lt160-2 c =
    let a = c.args in
    rw (ne_eqb a.b 0xE0 c.if-b-eq224.false, eq-eqb a.b 0xED (omega arith), le-ltb a.c 0xA0 (omega arith))

pub returns-else-b-eq237 : goal.returns-else-b-eq237
unfolding misfit
returns-else-b-eq237 c =
    let a = c.args in
    rw (ne_eqb a.b 0xE0 c.if-b-eq224.false, ne_eqb a.b 0xED c.if-b-eq237.false)
