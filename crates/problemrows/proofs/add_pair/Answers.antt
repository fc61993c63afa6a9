-- `add_pair` meets its contract: its tests, and the entry put.
use native.Mathlib.Omega.{arith}
use lib.ListN.{take}
use Rattle.problemrows.specs.Laws.{adds-by, adds-refused, pair-first, pair-second, pair-inside}
use Rattle.problemrows.proofs.add_pair.Goals as goal

pub returns-then-components-first : goal.returns-then-components-first
returns-then-components-first c =
    let a = c.args in
    adds-by (pair-first a.components a.room a.first a.second (take a.n a.pairs.now) (omega (arith, c.if-components-first.true)))
    (adds-refused 6 a.n a.pairs.now (omega (arith, c.requires.1, c.requires.2)))

pub returns-then-components-second : goal.returns-then-components-second
returns-then-components-second c =
    let a = c.args in
    adds-by (pair-second a.components a.room a.first a.second (take a.n a.pairs.now) (omega (arith, c.if-components-first.false)) (omega (arith, c.if-components-second.true)))
    (adds-refused 6 a.n a.pairs.now (omega (arith, c.requires.1, c.requires.2)))

pub returns : goal.returns
returns c =
    let a = c.args in
    adds-by (pair-inside a.components a.room a.first a.second (take a.n a.pairs.now) (omega (arith, c.if-components-first.false)) (omega (arith, c.if-components-second.false)))
    c.put_entry.ensures
