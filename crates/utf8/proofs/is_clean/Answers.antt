-- `is_clean` meets its contract: a part without a fault is well-formed.
use mathlib.Core.Bool.{false≢true}
use native.Mathlib.Omega.{arith}
use Rattle.utf8.proofs.Blocks.{clean-part}
use Rattle.utf8.proofs.is_clean.Goals as goal

pub returns-then-clean_ends : goal.returns-then-clean_ends
returns-then-clean_ends c h =
    let a = c.args in
    let ends = c.clean_ends.ensures c.if-clean_ends.true in
    clean-part a.s.now a.from a.to (omega arith) c.requires.1 ends (c.clean_blocks.ensures h)

pub returns-else-clean_ends : goal.returns-else-clean_ends
returns-else-clean_ends c h = absurd (false≢true h)

pub returns-else-to-from-ge18 : goal.returns-else-to-from-ge18
returns-else-to-from-ge18 c h = absurd (false≢true h)
