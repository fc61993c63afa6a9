-- `is_place` meets its contract.
use native.Mathlib.Omega.{arith}
use borrow.Author.Tests.{le-leb, lt-leb}
use Rattle.names.specs.Names.{place_good}
use Rattle.names.proofs.is_place.Goals as goal

pub returns-then-len-eq0 : goal.returns-then-len-eq0
unfolding place_good
returns-then-len-eq0 c = simp (lt-leb 1 c.args.len (omega arith))

pub returns-then-len-gt-NAME_BYTES : goal.returns-then-len-gt-NAME_BYTES
unfolding place_good
returns-then-len-gt-NAME_BYTES c = simp (le-leb 1 c.args.len (omega arith), lt-leb c.args.len 255 (omega arith))

pub returns-then-size-at : goal.returns-then-size-at
unfolding place_good
returns-then-size-at c =
    let a = c.args in
    simp (le-leb 1 a.len (omega arith), le-leb a.len 255 (omega arith), lt-leb a.at a.size (omega arith))

pub returns : goal.returns
unfolding place_good
returns c =
    let a = c.args in
    simp (le-leb 1 a.len (omega arith), le-leb a.len 255 (omega arith), le-leb a.at a.size (omega arith))
