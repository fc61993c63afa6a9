-- `lowest_by_rows` meets its contract: what is out has one strictly below, and d is the least that is to be looked at.
use native.Mathlib.Omega.{arith}
use mathlib.Core.Path.{ap, ◌∙◌}
use lib.ListN.{length}
use Rattle.tables.specs.Table.{view_of, view-good}
use Rattle.ancestry.specs.Rows.{row-length}
use Rattle.supertype.specs.Stripped.{turn-row, turn-above, turn-none, starts-least}
use Rattle.view.specs.Lows.{lowing-start, lowing-turn, lowing-fewer, lowing-end}
use Rattle.supertype.proofs.lowest_by_rows.Goals as goal

pub loop-d-init : goal.loop-d-init
loop-d-init c =
    let a = c.args in
    let p = c.requires in
    (c.lowest-d.ensures, lowing-start (view_of a.pairs.now a.marks.now a.t) (view-good a.pairs.now a.marks.now a.t p.0 p.1) a.all.words p.3 p.2)

pub loop-d-smaller : goal.loop-d-smaller
loop-d-smaller c =
    let a = c.args in
    let p = c.requires in
    let l = c.loop-d in
    let r = c.row_of-r in
    lowing-fewer (view_of a.pairs.now a.marks.now a.t) (view-good a.pairs.now a.marks.now a.t p.0 p.1) a.all.words p.3 l.alive.words l.todo.words l.invariant.1 l.d ((starts-least l.todo.words l.d l.invariant.0).0 (let f = p.0 in omega arith)) (let f = p.0 in omega arith)
    r.result.words c.difference-todo.result.words
    (r.ensures ∙ turn-row (view_of a.pairs.now a.marks.now a.t) a.rows.now a.all.words l.alive.words l.todo.words l.invariant.1 p.5 l.d l.invariant.0 (let f = p.0 in omega arith))
    c.difference-todo.ensures

pub loop-d-preserved : goal.loop-d-preserved
loop-d-preserved c =
    let a = c.args in
    let p = c.requires in
    let l = c.loop-d in
    let r = c.row_of-r in
    let m = c.intersection in
    let u = c.not_in_rows-above in (
      c.lowest-d-in-loop-d.ensures,
      lowing-turn (view_of a.pairs.now a.marks.now a.t) (view-good a.pairs.now a.marks.now a.t p.0 p.1) a.all.words p.3 l.alive.words l.todo.words l.invariant.1 l.d ((starts-least l.todo.words l.d l.invariant.0).0 (let f = p.0 in omega arith)) (let f = p.0 in omega arith)
          r.result.words m.result.words u.result.words
          (r.ensures ∙ turn-row (view_of a.pairs.now a.marks.now a.t) a.rows.now a.all.words l.alive.words l.todo.words l.invariant.1 p.5 l.d l.invariant.0 (let f = p.0 in omega arith))
          m.ensures
          (turn-above (view_of a.pairs.now a.marks.now a.t) a.rows.now a.all.words l.alive.words l.todo.words l.invariant.1 p.5 l.d r.result.words m.result.words u.result.words
          (ap length r.ensures ∙ row-length a.rows.now l.d p.4 (let f = p.0 in omega arith)) m.ensures u.ensures)
          c.difference-alive.result.words c.difference-todo.result.words c.difference-alive.ensures c.difference-todo.ensures,
    )

pub returns : goal.returns
returns c =
    let a = c.args in
    let p = c.requires in
    let l = c.loop-d in
    lowing-end (view_of a.pairs.now a.marks.now a.t) (view-good a.pairs.now a.marks.now a.t p.0 p.1) a.all.words p.3 l.alive.words l.todo.words l.invariant.1 (turn-none (view_of a.pairs.now a.marks.now a.t) a.rows.now a.all.words l.alive.words l.todo.words l.invariant.1 p.5 p.3 l.d l.invariant.0 (omega arith))
