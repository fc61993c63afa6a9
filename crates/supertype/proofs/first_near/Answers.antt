-- `first_near` meets its contract: at each turn both walks stand at level k, and nothing of the set was hit before.
use native.Mathlib.Omega.{arith}
use mathlib.Core.Path.{sym, ◌∙◌}
use Rattle.tables.specs.Table.{view_of}
use Rattle.supertype.specs.Near.{meeting-start, meeting-hit, meeting-next, meeting-end}
use Rattle.supertype.proofs.first_near.Goals as goal

pub loop-k-init : goal.loop-k-init
loop-k-init c =
    let a = c.args in
    meeting-start a.both (view_of a.pairs.now a.marks.now a.t) a.left a.right a.s.words c.requires c.empty-none.result.words c.with-seen_left.result.words c.with-seen_right.result.words c.empty-none.ensures c.with-seen_left.ensures c.with-seen_right.ensures

pub returns-then-lowest-ne1024 : goal.returns-then-lowest-ne1024
returns-then-lowest-ne1024 c =
    let a = c.args in
    let l = c.loop-k in
    let h = c.hits-met in
    meeting-hit a.both (view_of a.pairs.now a.marks.now a.t) a.left a.right a.s.words c.requires l.seen_left.words l.front_left.words l.seen_right.words l.front_right.words l._k l.invariant h.result.words h.ensures (λ e. c.if-lowest-ne1024.true (c.lowest.ensures ∙ e))

pub loop-k-preserved : goal.loop-k-preserved
loop-k-preserved c =
    let a = c.args in
    let l = c.loop-k in
    let h = c.hits-met in
    let nl = c.expand-next_left in
    let nr = c.expand-next_right in
    meeting-next a.both (view_of a.pairs.now a.marks.now a.t) a.left a.right a.s.words c.requires l.seen_left.words l.front_left.words l.seen_right.words l.front_right.words l._k l.invariant h.result.words h.ensures (sym c.lowest.ensures ∙ c.if-lowest-ne1024.false) c.loop-k-test.true nl.result.words nr.result.words c.difference-front_left.result.words c.difference-front_right.result.words nl.ensures nr.ensures c.difference-front_left.ensures c.difference-front_right.ensures

pub returns : goal.returns
returns c =
    let a = c.args in
    let l = c.loop-k in
    let h = c.hits in
    meeting-end a.both (view_of a.pairs.now a.marks.now a.t) a.left a.right a.s.words c.requires l.seen_left.words l.front_left.words l.seen_right.words l.front_right.words l._k l.invariant h.result.words h.ensures (omega arith)
