-- `reached_from` meets its contract: a row that is there is what is reached.
use mathlib.Core.Path.{sym, ◌∙◌}
use native.Mathlib.Omega.{arith}
use Rattle.prepared.specs.Prepared.{rows-length, row-there}
use Rattle.prepared.proofs.reached_from.Goals as goal

pub slice_bounds-row_of-end : goal.slice_bounds-row_of-end
slice_bounds-row_of-end c =
    let a = c.args in
    let w = row-there a.pairs.now a.t a.x (sym c.has_row.ensures ∙ c.if-has_row.true) in
    let l = w.0 in
    omega arith

pub row_of-requires : goal.row_of-requires
row_of-requires c =
    let a = c.args in
    let w = row-there a.pairs.now a.t a.x (sym c.has_row.ensures ∙ c.if-has_row.true) in
    (rows-length a.pairs.now w.0, w.2)

pub returns-then-has_row : goal.returns-then-has_row
returns-then-has_row c = c.row_of.ensures ∙ c.requires.rows c.args.x (sym c.has_row.ensures ∙ c.if-has_row.true)
