-- `through` meets its contract: the rows below i are done.
use native.Mathlib.Omega.{arith}
use mathlib.Core.Path.{sym, ◌∙◌}
use Rattle.ancestry.specs.Rows.{passing-start, passing-more, passing-end}
use Rattle.ancestry.proofs.through.Goals as goal

pub loop-i-init : goal.loop-i-init
loop-i-init c = (c.requires.1, c.requires.2, c.requires.0, c.row_of-via.ensures, passing-start c.args.rows.now c.args.k c.requires.0)

pub loop-i-preserved : goal.loop-i-preserved
loop-i-preserved c =
    let a = c.args in
    let l = c.loop-i in
    let q = passing-more a.rows.now a.k l.rows l.i l.invariant.4 c.is_in-taken.result c.is_in-taken.ensures c.row_of-via.result.words c.join_if.new.rows l.invariant.3 c.join_if.ensures in
    (l.invariant.0, l.invariant.1, q.size, l.invariant.3, q)

pub shape_of-rows : goal.shape_of-rows
shape_of-rows c = c.loop-i.invariant.2 ∙ sym c.requires.0

pub returns : goal.returns
returns c =
    let a = c.args in
    let l = c.loop-i in
    passing-end a.rows.now a.k l.rows l.i a.names l.invariant.4 (omega arith)
