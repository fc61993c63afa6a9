-- `walk_to` meets its contract: at each turn the walk stands at level k.
use native.Mathlib.Omega.{arith}
use mathlib.Core.Path.{sym, ◌∙◌}
use Rattle.tables.specs.Table.{view_of}
use Rattle.hierarchy.proofs.Walks.{standing-start, standing-next, walked-found, walked-last, walked-end}
use Rattle.hierarchy.proofs.walk_to.Goals as goal

pub loop-k-init : goal.loop-k-init
loop-k-init c =
    let a = c.args in
    standing-start (view_of a.pairs.now a.marks.now a.t) a.x a.y c.empty-none.result.words c.with-seen.result.words c.empty-none.ensures c.with-seen.ensures

pub returns-then-has : goal.returns-then-has
returns-then-has c =
    let a = c.args in
    let l = c.loop-k in
    walked-found (view_of a.pairs.now a.marks.now a.t) a.x a.y l.seen.words l.front.words l.k l.invariant (sym c.has.ensures ∙ c.if-has.true)

pub returns-then-lowest-eq-NAMES : goal.returns-then-lowest-eq-NAMES
returns-then-lowest-eq-NAMES c =
    let a = c.args in
    let l = c.loop-k in
    walked-last (view_of a.pairs.now a.marks.now a.t) a.x a.y l.seen.words l.front.words l.k l.invariant c.expand-next.result.words
    c.difference-front.result.words c.expand-next.ensures c.difference-front.ensures (sym c.has.ensures ∙ c.if-has.false) (sym c.lowest.ensures ∙ c.if-lowest-eq-NAMES.true)

pub loop-k-preserved : goal.loop-k-preserved
loop-k-preserved c =
    let a = c.args in
    let l = c.loop-k in
    standing-next (view_of a.pairs.now a.marks.now a.t) a.x a.y l.seen.words l.front.words l.k l.invariant c.expand-next.result.words
    c.difference-front.result.words c.expand-next.ensures c.difference-front.ensures (sym c.has.ensures ∙ c.if-has.false) (omega arith)

pub returns : goal.returns
returns c =
    let a = c.args in
    let l = c.loop-k in
    walked-end (view_of a.pairs.now a.marks.now a.t) a.x a.y l.seen.words l.front.words l.k l.invariant (omega arith) c.has-2.result c.has-2.ensures c.then_some.result c.then_some.ensures
