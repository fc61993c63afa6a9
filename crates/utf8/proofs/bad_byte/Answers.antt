-- `bad_byte` meets its contract, test by test.
use borrow.Author.Tests.{lt-ltb, le-ltb}
use native.Mathlib.Omega.{arith}
use Rattle.utf8.specs.Seams.{stray}
use Rattle.utf8.proofs.bad_byte.Goals as goal

pub returns-then-c-lt192 : goal.returns-then-c-lt192
unfolding stray
returns-then-c-lt192 c =
    let x = c.args.c in
    rw (lt-ltb x 0xC0 (omega arith))

pub returns-then-c-lt194 : goal.returns-then-c-lt194
unfolding stray
returns-then-c-lt194 c =
    let x = c.args.c in
    rw (le-ltb x 0xC0 (omega arith), lt-ltb x 0xC2 (omega arith))

pub returns-then-c-lt240 : goal.returns-then-c-lt240
unfolding stray
returns-then-c-lt240 c =
    let x = c.args.c in
    rw (le-ltb x 0xC0 (omega arith), le-ltb x 0xC2 (omega arith), lt-ltb x 0xF0 (omega arith))

pub returns-else-c-lt240 : goal.returns-else-c-lt240
unfolding stray
returns-else-c-lt240 c =
    let x = c.args.c in
    rw (le-ltb x 0xC0 (omega arith), le-ltb x 0xC2 (omega arith), le-ltb x 0xF0 (omega arith))
