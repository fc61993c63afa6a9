-- `add_pairs` meets its contract: what is left are the rows from i on; the pairs so far stand in front of the slice as it came.
use mathlib.Core.Path.{refl, sym, ap, ◌∙◌}
use Prim.Native.Nat.{◌+◌}
use native.Mathlib.Omega.{arith}
use lib.ListN.{take, drop, get_or}
use lib.Seq.{length-take-le}
use Rattle.problemrows.specs.ProblemRows.{pair_row}
use Rattle.problemrows.specs.Laws.{adds-by}
use Rattle.problemcolumns.specs.Runs.{pair_run}
use Rattle.problemcolumns.specs.Steps.{pairs-end, pairs-stop, pairs-step, pair-stays, adds-last, turned, adds-end}
use Rattle.problemcolumns.proofs.add_pairs.Goals as goal

pub loop-i-init : goal.loop-i-init
loop-i-init c = let p = c.requires in (omega arith, p.1, omega arith, p.2, refl, tt, refl, refl)

pub add_pair-row-requires : goal.add_pair-row-requires
add_pair-row-requires c =
    let p = c.requires in
    let v = c.loop-i.invariant in
    (p.0, v.2, v.3, v.5)

pub shape_of-pairs-then-row-ne0 : goal.shape_of-pairs-then-row-ne0
shape_of-pairs-then-row-ne0 c =
    let a = c.args in
    let l = c.loop-i in
    let row = c.add_pair-row in
    let i = l.i in
    let e = take l.n l.pairs in
    let one = pair_row a.components a.room (get_or a.firsts.now i 0) (get_or a.seconds.now i 0) e in
    let stays = pair-stays a.room e l.invariant.5 (let t = length-take-le l.n l.pairs (omega (arith, l.invariant.2, l.invariant.3)) in omega (arith, t, l.invariant.2)) a.components (get_or a.firsts.now i 0) (get_or a.seconds.now i 0) in
    (turned a.room l.n a.pairs.now l.pairs _ one row.result l.invariant.2 l.invariant.3 l.invariant.4 l.invariant.6 stays row.ensures).as-long

pub returns-then-row-ne0 : goal.returns-then-row-ne0
returns-then-row-ne0 c =
    let a = c.args in
    let l = c.loop-i in
    let h = c.loop-i-test.true in
    let row = c.add_pair-row in
    let i = l.i in
    let e = take l.n l.pairs in
    let one = pair_row a.components a.room (get_or a.firsts.now i 0) (get_or a.seconds.now i 0) e in
    let stays = pair-stays a.room e l.invariant.5 (let t = length-take-le l.n l.pairs (omega (arith, l.invariant.2, l.invariant.3)) in omega (arith, t, l.invariant.2)) a.components (get_or a.firsts.now i 0) (get_or a.seconds.now i 0) in
    adds-by (l.invariant.7 ∙ pairs-stop a.components a.room a.firsts.now a.seconds.now i e h (omega (arith, h, l.invariant.1)) _ _ row.result row.ensures c.if-row-ne0.true)
    (adds-last a.room l.n a.pairs.now l.pairs _ one row.result l.invariant.2 l.invariant.3 l.invariant.4 l.invariant.6 stays row.ensures)

pub loop-i-preserved : goal.loop-i-preserved
loop-i-preserved c =
    let a = c.args in
    let l = c.loop-i in
    let h = c.loop-i-test.true in
    let row = c.add_pair-row in
    let i = l.i in
    let e = take l.n l.pairs in
    let one = pair_row a.components a.room (get_or a.firsts.now i 0) (get_or a.seconds.now i 0) e in
    let stays = pair-stays a.room e l.invariant.5 (let t = length-take-le l.n l.pairs (omega (arith, l.invariant.2, l.invariant.3)) in omega (arith, t, l.invariant.2)) a.components (get_or a.firsts.now i 0) (get_or a.seconds.now i 0) in
    let turn = turned a.room l.n a.pairs.now l.pairs _ one row.result l.invariant.2 l.invariant.3 l.invariant.4 l.invariant.6 stays row.ensures in (
      omega (arith, h),
      l.invariant.1,
      turn.within,
      omega (arith, turn.as-long, l.invariant.4, l.invariant.3),
      turn.as-long,
      turn.ordered,
      turn.front,
      l.invariant.7 ∙ pairs-step a.components a.room a.firsts.now a.seconds.now i e h (omega (arith, h, l.invariant.1)) _ _ row.result row.ensures c.if-row-ne0.false
          ∙ ap (pair_run a.components a.room (drop (i + 1) a.firsts.now) (drop (i + 1) a.seconds.now)) (sym turn.entries),
    )

pub shape_of-pairs : goal.shape_of-pairs
shape_of-pairs c = c.loop-i.invariant.4

pub returns : goal.returns
returns c =
    let a = c.args in
    let l = c.loop-i in
    adds-by (l.invariant.7 ∙ pairs-end a.components a.room a.firsts.now a.seconds.now l.i (take l.n l.pairs) (omega arith))
    (adds-end l.n a.pairs.now l.pairs (omega (arith, l.invariant.2, l.invariant.3)) l.invariant.6)
