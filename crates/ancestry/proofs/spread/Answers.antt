-- `spread` meets its contract: only the front is left to expand, and with each turn more is expanded.
use native.Mathlib.Omega.{arith}
use mathlib.Core.Path.{◌≡◌}
use Rattle.sets.specs.Sets.{at, first}
use Rattle.sets.specs.Bits.{first-le}
use Rattle.sets.proofs.Good.{array-length, array-fits}
use Rattle.tables.specs.Table.{view_of, view-good}
use Rattle.ancestry.specs.Spread.{spreading-start, spreading-next, spreading-less, spreading-end}
use Rattle.ancestry.proofs.spread.Goals as goal

pub loop-c-init : goal.loop-c-init
loop-c-init c =
    let a = c.args in
    let p = c.requires in
    let w = c.well_formed.1.1.1.0.1.1.0 in (
      c.lowest-c.ensures,
      spreading-start (view_of a.pairs.now a.marks.now a.t) (view-good a.pairs.now a.marks.now a.t p.0 p.1) a.s.words p.2
          (array-length 16 a.s.words _ w, array-fits 16 a.s.words _ w),
    )

pub loop-c-smaller : goal.loop-c-smaller
loop-c-smaller c =
    let a = c.args in
    let p = c.requires in
    let l = c.loop-c in
    spreading-less (view_of a.pairs.now a.marks.now a.t) (view-good a.pairs.now a.marks.now a.t p.0 p.1) a.s.words p.2 l.seen.words l.front.words l.invariant.1
    c.expand-next.result.words c.difference-front.result.words c.expand-next.ensures c.difference-front.ensures l.c l.invariant.0 (omega arith)

pub loop-c-preserved : goal.loop-c-preserved
loop-c-preserved c =
    let a = c.args in
    let p = c.requires in
    let l = c.loop-c in (
      c.lowest-c-in-loop-c.ensures,
      spreading-next (view_of a.pairs.now a.marks.now a.t) (view-good a.pairs.now a.marks.now a.t p.0 p.1) a.s.words p.2 l.seen.words l.front.words l.invariant.1
          c.expand-next.result.words c.difference-front.result.words c.expand-next.ensures c.difference-front.ensures,
    )

pub returns : goal.returns
returns c =
    let a = c.args in
    let p = c.requires in
    let l = c.loop-c in
    let e = l.invariant.0 in
    let h = first-le (at l.front.words) 1024 in
    spreading-end (view_of a.pairs.now a.marks.now a.t) (view-good a.pairs.now a.marks.now a.t p.0 p.1) a.s.words p.2 l.seen.words l.front.words l.invariant.1
    (let q : first (at l.front.words) 1024 ≡ 1024 = omega arith in q)
