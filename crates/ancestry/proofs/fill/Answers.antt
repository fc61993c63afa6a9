-- `fill` meets its contract: what leads through a class that is not left is there.
use native.Mathlib.Omega.{arith}
use mathlib.Core.Path.{◌≡◌, sym, ap, ◌∙◌}
use Prim.Native.Nat.{ℕ}
use lib.ListN.{length, length-replicate}
use Rattle.sets.specs.Sets.{at, first}
use Rattle.sets.specs.Bits.{first-le}
use Rattle.sets.proofs.Good.{array-length}
use Rattle.view.specs.Frontier.{left-less}
use Rattle.tables.specs.Table.{view_of, view-good}
use Rattle.ancestry.specs.Rows.{rows_room}
use Rattle.ancestry.specs.Closure.{closing-start, closing-next, closing-end}
use Rattle.ancestry.proofs.fill.Goals as goal

pub begin-requires : goal.begin-requires
begin-requires c =
    let p = c.requires in
    (p.4, λ x m. let h = p.2 x m in let f = p.0 in omega arith)

pub loop-k-init : goal.loop-k-init
loop-k-init c =
    let a = c.args in
    let p = c.requires in
    let n = array-length 16 a.s.words _ c.well_formed.1.1.1.0.1.1.0 in
    let e = c.begin.ensures in
    (c.lowest-k.ensures, p.0, e.size, n, closing-start (view_of a.pairs.now a.marks.now a.t) (view-good a.pairs.now a.marks.now a.t p.0 p.1) a.s.words n p.2 p.3 c.begin.new.rows e)

pub loop-k-smaller : goal.loop-k-smaller
loop-k-smaller c =
    let l = c.loop-k in
    left-less l.left.words l.k c.without-left.result.words l.invariant.0 (omega arith) c.without-left.ensures

pub loop-k-preserved : goal.loop-k-preserved
loop-k-preserved c =
    let a = c.args in
    let p = c.requires in
    let l = c.loop-k in
    let q =
    closing-next (view_of a.pairs.now a.marks.now a.t) (view-good a.pairs.now a.marks.now a.t p.0 p.1) a.s.words l.invariant.3 p.2 p.3 l.left.words l.rows l.invariant.4 l.k l.invariant.0 (omega arith)
    c.through.new.rows c.without-left.result.words c.through.ensures c.without-left.ensures in
    (c.lowest-k-in-loop-k.ensures, p.0, q.size, l.invariant.3, q)

pub shape_of-rows : goal.shape_of-rows
shape_of-rows c = c.loop-k.invariant.2 ∙ sym (ap length c.requires.4 ∙ length-replicate {A = ℕ} rows_room 0)

pub returns : goal.returns
returns c =
    let a = c.args in
    let p = c.requires in
    let l = c.loop-k in
    let e = l.invariant.0 in
    let h = first-le (at l.left.words) 1024 in
    closing-end (view_of a.pairs.now a.marks.now a.t) (view-good a.pairs.now a.marks.now a.t p.0 p.1) a.s.words l.invariant.3 p.2 p.3 l.left.words l.rows l.invariant.4 (let q : first (at l.left.words) 1024 ≡ 1024 = omega arith in q)
