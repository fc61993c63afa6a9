-- `reaches` meets its contract: a row that is there is what is reached.
use mathlib.Core.Path.{sym, ◌∙◌, refl}
use native.Mathlib.Omega.{arith}
use Rattle.prepared.specs.Prepared.{rows_in, rows-length, row-there, row-tells}
use Rattle.ancestry.specs.Rows.{row}
use Rattle.prepared.proofs.reaches.Goals as goal

pub slice_bounds-is_in-end : goal.slice_bounds-is_in-end
slice_bounds-is_in-end c =
    let a = c.args in
    let w = row-there a.pairs.now a.t a.x (sym c.has_row.ensures ∙ c.if-has_row.true) in
    let l = w.0 in
    omega arith

pub is_in-requires : goal.is_in-requires
is_in-requires c =
    let a = c.args in
    let w = row-there a.pairs.now a.t a.x (sym c.has_row.ensures ∙ c.if-has_row.true) in
    (rows-length a.pairs.now w.0, w.2, c.requires.1)

pub returns-then-has_row : goal.returns-then-has_row
returns-then-has_row c =
    let a = c.args in
    sym
    (row-tells a.pairs.now a.marks.now a.t c.requires.0 a.x (sym c.has_row.ensures ∙ c.if-has_row.true) (row (rows_in a.pairs.now) a.x) refl a.y c.is_in.result c.is_in.ensures)
