-- `continuing` meets its contract, test by test.
use borrow.Author.Tests.{lt-ltb, le-ltb}
use native.Mathlib.Omega.{arith}
use Rattle.utf8.specs.Seams.{continues}
use Rattle.utf8.proofs.continuing.Goals as goal

pub returns-then-c-lt128 : goal.returns-then-c-lt128
unfolding continues
returns-then-c-lt128 c =
    let x = c.args.c in
    rw (lt-ltb x 0x80 (omega arith))

pub returns-then-c-lt192 : goal.returns-then-c-lt192
unfolding continues
returns-then-c-lt192 c =
    let x = c.args.c in
    rw (le-ltb x 0x80 (omega arith), lt-ltb x 0xC0 (omega arith))

pub returns-else-c-lt192 : goal.returns-else-c-lt192
unfolding continues
returns-else-c-lt192 c =
    let x = c.args.c in
    rw (le-ltb x 0x80 (omega arith), le-ltb x 0xC0 (omega arith))
