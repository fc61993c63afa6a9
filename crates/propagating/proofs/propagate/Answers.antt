-- `propagate` meets its contract: each turn is one of the definition, and less is left to do after it.
use mathlib.Core.Path.{refl, sym, ◌∙◌}
use Prim.Native.Nat.{◌+◌}
use native.Mathlib.Omega.{arith}
use Rattle.inserting.specs.Store.{store}
use Rattle.propagating.specs.Propagating.{first-of, first-ahead, turnable, ends, fronted, small, less, goes, stops}
use Rattle.propagating.proofs.propagate.Goals as goal

pub start-state-requires : goal.start-state-requires
start-state-requires c =
    let x = c.args in
    let p = c.requires in
    (p.ring-room, p.within)

pub loop-state-init : goal.loop-state-init
loop-state-init c =
    let x = c.args in
    let p = c.requires in
    let q = c.start-state in
    (refl, q.auto.ring ∙ p.ring-room, refl, refl, refl, first-of x.pairs.now x.marks.now x.t x.a.now x.count x.ring.now x.words.now x.fallbacks.now x.uppers.now x.flows.now x.incoming.now x.reads.now x.writes.now x.components p q.new.ring q.result q.ensures.0 q.ensures.1, first-ahead x.pairs.now x.marks.now x.t x.a.now x.count x.ring.now x.words.now x.fallbacks.now x.uppers.now x.flows.now x.incoming.now x.reads.now x.writes.now x.components p q.result q.ensures.0)

pub take_front-front-requires : goal.take_front-front-requires
take_front-front-requires c =
    let x = c.args in
    let p = c.requires in
    let l = c.loop-state in
    (l.invariant.1, l.invariant.5.sound.good.shows.head, omega arith)

pub turn-state-requires : goal.turn-state-requires
turn-state-requires c =
    let x = c.args in
    let p = c.requires in
    let l = c.loop-state in
    let o = c.take_front-front in
    (turnable x.pairs.now x.marks.now x.t x.a.now x.count x.ring.now x.words.now x.fallbacks.now x.uppers.now x.flows.now x.incoming.now x.reads.now x.writes.now x.components p l.turns o.result.root (store l.a l.ring o.result.state) l.words l.fallbacks l.uppers (l.invariant.2 ∙ p.words-room) (l.invariant.3 ∙ p.fallbacks-room) (l.invariant.4 ∙ p.uppers-room) (fronted x.pairs.now x.marks.now x.t x.a.now x.count x.ring.now x.words.now x.fallbacks.now x.uppers.now x.flows.now x.incoming.now x.reads.now x.writes.now x.components p l.turns (store l.a l.ring l.state) l.invariant.5 o.result o.ensures (omega arith)), small x.pairs.now x.marks.now x.t x.a.now x.count x.ring.now x.words.now x.fallbacks.now x.uppers.now x.flows.now x.incoming.now x.reads.now x.writes.now x.components p l.turns (store l.a l.ring l.state) l.invariant.5 o.result o.ensures (omega arith))

pub overflow_add-turns : goal.overflow_add-turns
overflow_add-turns c =
    let l = c.loop-state in
    omega (arith, l.invariant.6)

pub shape_of-a-then-state-ne0 : goal.shape_of-a-then-state-ne0
shape_of-a-then-state-ne0 c = c.turn-state.auto.a ∙ c.loop-state.invariant.0

pub shape_of-ring-then-state-ne0 : goal.shape_of-ring-then-state-ne0
shape_of-ring-then-state-ne0 c =
    let x = c.args in
    let p = c.requires in
    let l = c.loop-state in
    let v = c.turn-state in
    v.auto.ring ∙ l.invariant.1 ∙ sym p.ring-room

pub shape_of-words-then-state-ne0 : goal.shape_of-words-then-state-ne0
shape_of-words-then-state-ne0 c =
    let x = c.args in
    let p = c.requires in
    let l = c.loop-state in
    let v = c.turn-state in
    v.auto.words ∙ l.invariant.2

pub shape_of-fallbacks-then-state-ne0 : goal.shape_of-fallbacks-then-state-ne0
shape_of-fallbacks-then-state-ne0 c =
    let x = c.args in
    let p = c.requires in
    let l = c.loop-state in
    let v = c.turn-state in
    v.auto.fallbacks ∙ l.invariant.3

pub shape_of-uppers-then-state-ne0 : goal.shape_of-uppers-then-state-ne0
shape_of-uppers-then-state-ne0 c =
    let x = c.args in
    let p = c.requires in
    let l = c.loop-state in
    let v = c.turn-state in
    v.auto.uppers ∙ l.invariant.4

pub returns-then-state-ne0 : goal.returns-then-state-ne0
returns-then-state-ne0 c =
    let x = c.args in
    let p = c.requires in
    let l = c.loop-state in
    let o = c.take_front-front in
    let v = c.turn-state in
    stops x.pairs.now x.marks.now x.t x.a.now x.count x.ring.now x.words.now x.fallbacks.now x.uppers.now x.flows.now x.incoming.now x.reads.now x.writes.now x.components p l.turns (store l.a l.ring l.state) l.invariant.5 o.result o.ensures c.loop-state-test.true (store v.new.a v.new.ring v.result) v.ensures c.if-state-ne0.true (l.turns + 1)

pub loop-state-smaller : goal.loop-state-smaller
loop-state-smaller c =
    let x = c.args in
    let p = c.requires in
    let l = c.loop-state in
    let o = c.take_front-front in
    let v = c.turn-state in
    omega (arith, less x.pairs.now x.marks.now x.t x.a.now x.count x.ring.now x.words.now x.fallbacks.now x.uppers.now x.flows.now x.incoming.now x.reads.now x.writes.now x.components p l.turns (store l.a l.ring l.state) l.invariant.5 o.result o.ensures c.loop-state-test.true, (goes x.pairs.now x.marks.now x.t x.a.now x.count x.ring.now x.words.now x.fallbacks.now x.uppers.now x.flows.now x.incoming.now x.reads.now x.writes.now x.components p l.turns (store l.a l.ring l.state) l.invariant.5 o.result o.ensures c.loop-state-test.true (store v.new.a v.new.ring v.result) v.ensures c.if-state-ne0.false).1)

pub loop-state-preserved : goal.loop-state-preserved
loop-state-preserved c =
    let x = c.args in
    let p = c.requires in
    let l = c.loop-state in
    let o = c.take_front-front in
    let v = c.turn-state in
    let z = goes x.pairs.now x.marks.now x.t x.a.now x.count x.ring.now x.words.now x.fallbacks.now x.uppers.now x.flows.now x.incoming.now x.reads.now x.writes.now x.components p l.turns (store l.a l.ring l.state) l.invariant.5 o.result o.ensures c.loop-state-test.true (store v.new.a v.new.ring v.result) v.ensures c.if-state-ne0.false in (
      v.auto.a ∙ l.invariant.0,
      v.auto.ring ∙ l.invariant.1,
      v.auto.words ∙ l.invariant.2,
      v.auto.fallbacks ∙ l.invariant.3,
      v.auto.uppers ∙ l.invariant.4,
      z.0,
      omega (arith, l.invariant.6, z.1, less x.pairs.now x.marks.now x.t x.a.now x.count x.ring.now x.words.now x.fallbacks.now x.uppers.now x.flows.now x.incoming.now x.reads.now x.writes.now x.components p l.turns (store l.a l.ring l.state) l.invariant.5 o.result o.ensures c.loop-state-test.true),
    )

pub shape_of-a : goal.shape_of-a
shape_of-a c = c.loop-state.invariant.0

pub shape_of-ring : goal.shape_of-ring
shape_of-ring c =
    let x = c.args in
    let p = c.requires in
    let l = c.loop-state in
    l.invariant.1 ∙ sym p.ring-room

pub shape_of-words : goal.shape_of-words
shape_of-words c = c.loop-state.invariant.2

pub shape_of-fallbacks : goal.shape_of-fallbacks
shape_of-fallbacks c = c.loop-state.invariant.3

pub shape_of-uppers : goal.shape_of-uppers
shape_of-uppers c = c.loop-state.invariant.4

pub returns : goal.returns
returns c =
    let x = c.args in
    let p = c.requires in
    let l = c.loop-state in
    ends x.pairs.now x.marks.now x.t x.a.now x.count x.ring.now x.words.now x.fallbacks.now x.uppers.now x.flows.now x.incoming.now x.reads.now x.writes.now x.components p l.turns (store l.a l.ring l.state) l.invariant.5 (omega arith)
