-- `lowest_by_walks` meets its contract: what is out has one strictly below, and d is one that is to be looked at.
use native.Mathlib.Omega.{arith}
use Rattle.tables.specs.Table.{view_of, view-good}
use Rattle.supertype.specs.Stripped.{starts-least}
use Rattle.view.specs.Lows.{lowing-start, lowing-turn, lowing-fewer, lowing-end}
use Rattle.supertype.proofs.lowest_by_walks.Goals as goal

pub loop-d-init : goal.loop-d-init
loop-d-init c =
    let a = c.args in
    let p = c.requires in
    (p.5, lowing-start (view_of a.pairs.now a.marks.now a.t) (view-good a.pairs.now a.marks.now a.t p.0 p.1) a.all.words p.3 p.2)

pub reached_from-r-requires : goal.reached_from-r-requires
reached_from-r-requires c = c.requires.4

pub not_reaching-above-requires : goal.not_reaching-above-requires
not_reaching-above-requires c = (c.requires.4, omega arith)

pub loop-d-smaller : goal.loop-d-smaller
loop-d-smaller c =
    let a = c.args in
    let l = c.loop-d in
    lowing-fewer (view_of a.pairs.now a.marks.now a.t) (view-good a.pairs.now a.marks.now a.t c.requires.0 c.requires.1) a.all.words c.requires.3 l.alive.words l.todo.words l.invariant.1 l.d (l.invariant.0.0 (omega arith)) (omega arith)
    c.reached_from-r.result.words c.difference-todo.result.words c.reached_from-r.ensures c.difference-todo.ensures

pub loop-d-preserved : goal.loop-d-preserved
loop-d-preserved c =
    let a = c.args in
    let l = c.loop-d in (
      starts-least c.difference-todo.result.words c.lowest-d.result c.lowest-d.ensures,
      lowing-turn (view_of a.pairs.now a.marks.now a.t) (view-good a.pairs.now a.marks.now a.t c.requires.0 c.requires.1) a.all.words c.requires.3 l.alive.words l.todo.words l.invariant.1 l.d (l.invariant.0.0 (omega arith)) (omega arith)
          c.reached_from-r.result.words c.intersection.result.words c.not_reaching-above.result.words
          c.reached_from-r.ensures c.intersection.ensures c.not_reaching-above.ensures
          c.difference-alive.result.words c.difference-todo.result.words c.difference-alive.ensures c.difference-todo.ensures,
    )

pub returns : goal.returns
returns c =
    let a = c.args in
    let l = c.loop-d in
    lowing-end (view_of a.pairs.now a.marks.now a.t) (view-good a.pairs.now a.marks.now a.t c.requires.0 c.requires.1) a.all.words c.requires.3 l.alive.words l.todo.words l.invariant.1 (l.invariant.0.1 (omega arith))
