-- `add_bounds` meets its contract: what is left are the rows from i on; the keys so far stand in front of the slice as it came.
use mathlib.Core.Path.{refl, sym, ap, ◌∙◌}
use Prim.Native.Nat.{◌+◌}
use native.Mathlib.Omega.{arith}
use lib.ListN.{take, drop, get_or}
use lib.Seq.{length-take-le}
use Rattle.problemrows.specs.ProblemRows.{bound_row}
use Rattle.problemrows.specs.Laws.{adds-by}
use Rattle.problemcolumns.specs.Runs.{bound_run}
use Rattle.problemcolumns.specs.Steps.{bounds-end, bounds-stop, bounds-step, bound-stays, adds-last, turned, adds-end}
use Rattle.problemcolumns.proofs.add_bounds.Goals as goal

pub loop-i-init : goal.loop-i-init
loop-i-init c = let p = c.requires in (omega arith, p.2, p.3, omega arith, p.4, refl, tt, refl, refl)

pub add_bound-row-requires : goal.add_bound-row-requires
add_bound-row-requires c =
    let p = c.requires in
    let v = c.loop-i.invariant in
    (p.0, p.1, v.3, v.4, v.6)

pub shape_of-bounds-then-row-ne0 : goal.shape_of-bounds-then-row-ne0
shape_of-bounds-then-row-ne0 c =
    let a = c.args in
    let l = c.loop-i in
    let row = c.add_bound-row in
    let i = l.i in
    let e = take l.n l.bounds in
    let one = bound_row a.names a.components (get_or a.bnd_comp.now i 0) (get_or a.bnd_kind.now i 0) (get_or a.bnd_type.now i 0) e in
    let stays = bound-stays a.names a.components (get_or a.bnd_comp.now i 0) (get_or a.bnd_kind.now i 0) (get_or a.bnd_type.now i 0) e l.invariant.6 (let t = length-take-le l.n l.bounds (omega (arith, l.invariant.3, l.invariant.4)) in omega (arith, t, l.invariant.3)) in
    (turned 4096 l.n a.bounds.now l.bounds _ one row.result l.invariant.3 l.invariant.4 l.invariant.5 l.invariant.7 stays row.ensures).as-long

pub returns-then-row-ne0 : goal.returns-then-row-ne0
returns-then-row-ne0 c =
    let a = c.args in
    let l = c.loop-i in
    let h = c.loop-i-test.true in
    let row = c.add_bound-row in
    let i = l.i in
    let e = take l.n l.bounds in
    let one = bound_row a.names a.components (get_or a.bnd_comp.now i 0) (get_or a.bnd_kind.now i 0) (get_or a.bnd_type.now i 0) e in
    let stays = bound-stays a.names a.components (get_or a.bnd_comp.now i 0) (get_or a.bnd_kind.now i 0) (get_or a.bnd_type.now i 0) e l.invariant.6 (let t = length-take-le l.n l.bounds (omega (arith, l.invariant.3, l.invariant.4)) in omega (arith, t, l.invariant.3)) in
    adds-by (l.invariant.8 ∙ bounds-stop a.names a.components a.bnd_comp.now a.bnd_kind.now a.bnd_type.now i e h (omega (arith, h, l.invariant.1)) (omega (arith, h, l.invariant.2)) _ _ row.result row.ensures c.if-row-ne0.true)
    (adds-last 4096 l.n a.bounds.now l.bounds _ one row.result l.invariant.3 l.invariant.4 l.invariant.5 l.invariant.7 stays row.ensures)

pub loop-i-preserved : goal.loop-i-preserved
loop-i-preserved c =
    let a = c.args in
    let l = c.loop-i in
    let h = c.loop-i-test.true in
    let row = c.add_bound-row in
    let i = l.i in
    let e = take l.n l.bounds in
    let one = bound_row a.names a.components (get_or a.bnd_comp.now i 0) (get_or a.bnd_kind.now i 0) (get_or a.bnd_type.now i 0) e in
    let stays = bound-stays a.names a.components (get_or a.bnd_comp.now i 0) (get_or a.bnd_kind.now i 0) (get_or a.bnd_type.now i 0) e l.invariant.6 (let t = length-take-le l.n l.bounds (omega (arith, l.invariant.3, l.invariant.4)) in omega (arith, t, l.invariant.3)) in
    let turn = turned 4096 l.n a.bounds.now l.bounds _ one row.result l.invariant.3 l.invariant.4 l.invariant.5 l.invariant.7 stays row.ensures in (
      omega (arith, h),
      l.invariant.1,
      l.invariant.2,
      turn.within,
      omega (arith, turn.as-long, l.invariant.5, l.invariant.4),
      turn.as-long,
      turn.ordered,
      turn.front,
      l.invariant.8 ∙ bounds-step a.names a.components a.bnd_comp.now a.bnd_kind.now a.bnd_type.now i e h (omega (arith, h, l.invariant.1)) (omega (arith, h, l.invariant.2)) _ _ row.result row.ensures c.if-row-ne0.false
          ∙ ap (bound_run a.names a.components (drop (i + 1) a.bnd_comp.now) (drop (i + 1) a.bnd_kind.now) (drop (i + 1) a.bnd_type.now)) (sym turn.entries),
    )

pub shape_of-bounds : goal.shape_of-bounds
shape_of-bounds c = c.loop-i.invariant.5

pub returns : goal.returns
returns c =
    let a = c.args in
    let l = c.loop-i in
    adds-by (l.invariant.8 ∙ bounds-end a.names a.components a.bnd_comp.now a.bnd_kind.now a.bnd_type.now l.i (take l.n l.bounds) (omega arith))
    (adds-end l.n a.bounds.now l.bounds (omega (arith, l.invariant.3, l.invariant.4)) l.invariant.7)
