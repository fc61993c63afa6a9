-- `has_row` meets its contract, test by test.
use mathlib.Core.Path.{sym, ◌∙◌}
use native.Mathlib.Omega.{arith}
use Rattle.prepared.specs.Prepared.{rows-length, row-asked, row-past, row-many, row-none}
use Rattle.prepared.proofs.has_row.Goals as goal

pub is_in-requires : goal.is_in-requires
is_in-requires c =
    let a = c.args in
    (rows-length a.pairs.now c.if-pairs-eq-TABLE.true, c.if-c-lt-NAMES.true, c.if-c-lt-NAMES.true)

pub returns-then-c-lt-NAMES : goal.returns-then-c-lt-NAMES
returns-then-c-lt-NAMES c =
    let a = c.args in
    c.is_in.ensures ∙ sym (row-asked a.pairs.now a.t a.c c.if-pairs-eq-TABLE.true c.if-t-le-PAIRS.true c.if-c-lt-NAMES.true)

pub returns-then-t-le-PAIRS : goal.returns-then-t-le-PAIRS
returns-then-t-le-PAIRS c =
    let a = c.args in
    sym (row-past a.pairs.now a.t a.c c.if-pairs-eq-TABLE.true c.if-t-le-PAIRS.true (omega arith))

pub returns-then-pairs-eq-TABLE : goal.returns-then-pairs-eq-TABLE
returns-then-pairs-eq-TABLE c =
    let a = c.args in
    sym (row-many a.pairs.now a.t a.c c.if-pairs-eq-TABLE.true (omega arith))

pub returns : goal.returns
returns c =
    let a = c.args in
    sym (row-none a.pairs.now a.t a.c c.if-pairs-eq-TABLE.false)
