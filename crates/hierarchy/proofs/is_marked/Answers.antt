-- `is_marked` meets its contract: no set has a number past its end.
use native.Mathlib.Omega.{arith}
use mathlib.Core.Path.{sym}
use Rattle.sets.specs.Laws.{member-past}
use Rattle.tables.specs.Table.{mark, mark-length}
use Rattle.hierarchy.proofs.is_marked.Goals as goal

pub returns : goal.returns
returns c =
    let a = c.args in
    let l = mark-length a.marks.now a.k c.requires.0 c.requires.1 in
    sym (member-past (mark a.marks.now a.k) a.c (omega arith))
