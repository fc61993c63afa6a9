-- `turn` meets its contract: what is gathered from the component's own keys as they were, then the rules over its own flows.
use mathlib.Core.Path.{◌∙◌}
use native.Mathlib.Omega.{arith}
use Rattle.lattice.specs.World.{world_of}
use Rattle.inserting.specs.Store.{store}
use Rattle.sorted.specs.Parts.{part}
use Rattle.asking.specs.Laws.{asked-element}
use Rattle.turning.specs.Turning.{flows-cut, flows-turnable, flows-turned, turn-cut, turn-asks, turn-short, turn-gathers, turn-ready, turn-produced, turn-element, turn-array, turn-fallbacks, turn-uppers, turn-within, turn-additions}
use Rattle.turning.proofs.turn.Goals as goal

pub offset_bounds-flows-to : goal.offset_bounds-flows-to
offset_bounds-flows-to c =
    let x = c.args in
    let p = c.requires in
    let r = c.run-to in
    omega (arith, flows-cut x.pairs.now x.marks.now x.t (store x.a.now x.ring.now x.s) x.words.now x.fallbacks.now x.uppers.now x.flows.now x.incoming.now x.reads.now x.writes.now p.0 x.root r.result r.ensures, c.well_formed.1.1.1.1.1.1.1.1.1.0)

pub slice_bounds-targets-count : goal.slice_bounds-targets-count
slice_bounds-targets-count c =
    let x = c.args in
    let p = c.requires in
    let r = c.run-to in
    omega (arith, flows-cut x.pairs.now x.marks.now x.t (store x.a.now x.ring.now x.s) x.words.now x.fallbacks.now x.uppers.now x.flows.now x.incoming.now x.reads.now x.writes.now p.0 x.root r.result r.ensures)

pub slice_bounds-targets-start : goal.slice_bounds-targets-start
slice_bounds-targets-start c =
    let x = c.args in
    let p = c.requires in
    let r = c.run-to in
    omega (arith, flows-cut x.pairs.now x.marks.now x.t (store x.a.now x.ring.now x.s) x.words.now x.fallbacks.now x.uppers.now x.flows.now x.incoming.now x.reads.now x.writes.now p.0 x.root r.result r.ensures)

pub slice_bounds-targets-end : goal.slice_bounds-targets-end
slice_bounds-targets-end c =
    let x = c.args in
    let p = c.requires in
    let r = c.run-to in
    omega (arith, flows-cut x.pairs.now x.marks.now x.t (store x.a.now x.ring.now x.s) x.words.now x.fallbacks.now x.uppers.now x.flows.now x.incoming.now x.reads.now x.writes.now p.0 x.root r.result r.ensures)

pub asks-k-requires : goal.asks-k-requires
asks-k-requires c =
    let x = c.args in
    let p = c.requires in
    let r = c.run-to in
    (flows-turnable x.pairs.now x.marks.now x.t (store x.a.now x.ring.now x.s) x.words.now x.fallbacks.now x.uppers.now x.flows.now x.incoming.now x.reads.now x.writes.now p.0 x.root r.result r.ensures).flows-sorted

pub offset_bounds-a-of : goal.offset_bounds-a-of
offset_bounds-a-of c =
    let x = c.args in
    let p = c.requires in
    let r = c.run-to in
    let m = c.run-of in
    let y = flows-turnable x.pairs.now x.marks.now x.t (store x.a.now x.ring.now x.s) x.words.now x.fallbacks.now x.uppers.now x.flows.now x.incoming.now x.reads.now x.writes.now p.0 x.root r.result r.ensures in
    omega (arith, turn-cut x.pairs.now x.marks.now x.t x.a.now x.ring.now x.s x.words.now x.fallbacks.now x.uppers.now (part r.result.first r.result.past x.flows.now) x.incoming.now x.reads.now x.writes.now y x.root m.result m.ensures, p.0.good.holds.size)

pub slice_bounds-gather-count : goal.slice_bounds-gather-count
slice_bounds-gather-count c =
    let x = c.args in
    let p = c.requires in
    let r = c.run-to in
    let m = c.run-of in
    let y = flows-turnable x.pairs.now x.marks.now x.t (store x.a.now x.ring.now x.s) x.words.now x.fallbacks.now x.uppers.now x.flows.now x.incoming.now x.reads.now x.writes.now p.0 x.root r.result r.ensures in
    omega (arith, turn-cut x.pairs.now x.marks.now x.t x.a.now x.ring.now x.s x.words.now x.fallbacks.now x.uppers.now (part r.result.first r.result.past x.flows.now) x.incoming.now x.reads.now x.writes.now y x.root m.result m.ensures)

pub slice_bounds-gather-start : goal.slice_bounds-gather-start
slice_bounds-gather-start c =
    let x = c.args in
    let p = c.requires in
    let r = c.run-to in
    let m = c.run-of in
    let y = flows-turnable x.pairs.now x.marks.now x.t (store x.a.now x.ring.now x.s) x.words.now x.fallbacks.now x.uppers.now x.flows.now x.incoming.now x.reads.now x.writes.now p.0 x.root r.result r.ensures in
    omega (arith, turn-cut x.pairs.now x.marks.now x.t x.a.now x.ring.now x.s x.words.now x.fallbacks.now x.uppers.now (part r.result.first r.result.past x.flows.now) x.incoming.now x.reads.now x.writes.now y x.root m.result m.ensures)

pub slice_bounds-gather-end : goal.slice_bounds-gather-end
slice_bounds-gather-end c =
    let x = c.args in
    let p = c.requires in
    let r = c.run-to in
    let m = c.run-of in
    let y = flows-turnable x.pairs.now x.marks.now x.t (store x.a.now x.ring.now x.s) x.words.now x.fallbacks.now x.uppers.now x.flows.now x.incoming.now x.reads.now x.writes.now p.0 x.root r.result r.ensures in
    omega (arith, turn-cut x.pairs.now x.marks.now x.t x.a.now x.ring.now x.s x.words.now x.fallbacks.now x.uppers.now (part r.result.first r.result.past x.flows.now) x.incoming.now x.reads.now x.writes.now y x.root m.result m.ensures)

pub gather-g-requires : goal.gather-g-requires
gather-g-requires c =
    let x = c.args in
    let p = c.requires in
    let r = c.run-to in
    let m = c.run-of in
    let y = flows-turnable x.pairs.now x.marks.now x.t (store x.a.now x.ring.now x.s) x.words.now x.fallbacks.now x.uppers.now x.flows.now x.incoming.now x.reads.now x.writes.now p.0 x.root r.result r.ensures in
    let q = c.asks-k in
    let k = turn-short x.pairs.now x.marks.now x.t x.a.now x.ring.now x.s x.words.now x.fallbacks.now x.uppers.now (part r.result.first r.result.past x.flows.now) x.incoming.now x.reads.now x.writes.now y x.root m.result m.ensures in (
      turn-asks x.pairs.now x.marks.now x.t x.a.now x.ring.now x.s x.words.now x.fallbacks.now x.uppers.now (part r.result.first r.result.past x.flows.now) x.incoming.now x.reads.now x.writes.now y x.root m.result m.ensures,
      p.1,
      omega (arith, k, p.0.words-room),
      omega (arith, k, p.0.fallbacks-room),
      omega (arith, k, p.0.uppers-room),
      asked-element (part r.result.first r.result.past x.flows.now) x.reads.now x.writes.now x.root q.result q.ensures,
    )

pub slice_bounds-pass_rules-end : goal.slice_bounds-pass_rules-end
slice_bounds-pass_rules-end c =
    let x = c.args in
    let p = c.requires in
    let r = c.run-to in
    let m = c.run-of in
    let y = flows-turnable x.pairs.now x.marks.now x.t (store x.a.now x.ring.now x.s) x.words.now x.fallbacks.now x.uppers.now x.flows.now x.incoming.now x.reads.now x.writes.now p.0 x.root r.result r.ensures in
    let o = c.gather-g in
    let q = c.asks-k in
    let z = turn-gathers x.pairs.now x.marks.now x.t x.a.now x.ring.now x.s x.words.now x.fallbacks.now x.uppers.now (part r.result.first r.result.past x.flows.now) x.incoming.now x.reads.now x.writes.now y x.root m.result m.ensures q.result (world_of x.pairs.now x.marks.now x.t) o.result x.fallbacks.now o.new.fallbacks x.uppers.now o.new.uppers o.ensures in
    omega (arith, (turn-within x.pairs.now x.marks.now x.t x.a.now x.ring.now x.s x.words.now x.fallbacks.now x.uppers.now (part r.result.first r.result.past x.flows.now) x.incoming.now x.reads.now x.writes.now y x.root q.result q.ensures o.result o.new.fallbacks o.new.uppers z.0 z.1 z.2).0, o.auto.fallbacks, p.0.fallbacks-room)

pub slice_bounds-pass_rules-end-2 : goal.slice_bounds-pass_rules-end-2
slice_bounds-pass_rules-end-2 c =
    let x = c.args in
    let p = c.requires in
    let r = c.run-to in
    let m = c.run-of in
    let y = flows-turnable x.pairs.now x.marks.now x.t (store x.a.now x.ring.now x.s) x.words.now x.fallbacks.now x.uppers.now x.flows.now x.incoming.now x.reads.now x.writes.now p.0 x.root r.result r.ensures in
    let o = c.gather-g in
    let q = c.asks-k in
    let z = turn-gathers x.pairs.now x.marks.now x.t x.a.now x.ring.now x.s x.words.now x.fallbacks.now x.uppers.now (part r.result.first r.result.past x.flows.now) x.incoming.now x.reads.now x.writes.now y x.root m.result m.ensures q.result (world_of x.pairs.now x.marks.now x.t) o.result x.fallbacks.now o.new.fallbacks x.uppers.now o.new.uppers o.ensures in
    omega (arith, (turn-within x.pairs.now x.marks.now x.t x.a.now x.ring.now x.s x.words.now x.fallbacks.now x.uppers.now (part r.result.first r.result.past x.flows.now) x.incoming.now x.reads.now x.writes.now y x.root q.result q.ensures o.result o.new.fallbacks o.new.uppers z.0 z.1 z.2).1, o.auto.uppers, p.0.uppers-room)

pub pass_rules-requires : goal.pass_rules-requires
pass_rules-requires c =
    let x = c.args in
    let p = c.requires in
    let r = c.run-to in
    let m = c.run-of in
    let y = flows-turnable x.pairs.now x.marks.now x.t (store x.a.now x.ring.now x.s) x.words.now x.fallbacks.now x.uppers.now x.flows.now x.incoming.now x.reads.now x.writes.now p.0 x.root r.result r.ensures in
    let o = c.gather-g in
    let q = c.asks-k in
    let z = turn-gathers x.pairs.now x.marks.now x.t x.a.now x.ring.now x.s x.words.now x.fallbacks.now x.uppers.now (part r.result.first r.result.past x.flows.now) x.incoming.now x.reads.now x.writes.now y x.root m.result m.ensures q.result (world_of x.pairs.now x.marks.now x.t) o.result x.fallbacks.now o.new.fallbacks x.uppers.now o.new.uppers o.ensures in (
      turn-ready x.pairs.now x.marks.now x.t x.a.now x.ring.now x.s x.words.now x.fallbacks.now x.uppers.now (part r.result.first r.result.past x.flows.now) x.incoming.now x.reads.now x.writes.now y,
      y.flows-sorted,
      p.0.incoming-sorted,
      p.0.reads-below,
      p.0.writes-below,
      turn-produced x.pairs.now x.marks.now x.t x.a.now x.ring.now x.s x.words.now x.fallbacks.now x.uppers.now (part r.result.first r.result.past x.flows.now) x.incoming.now x.reads.now x.writes.now y x.root q.result q.ensures o.result o.new.fallbacks o.new.uppers z.0 z.1 z.2,
      turn-fallbacks x.pairs.now x.marks.now x.t x.a.now x.ring.now x.s x.words.now x.fallbacks.now x.uppers.now (part r.result.first r.result.past x.flows.now) x.incoming.now x.reads.now x.writes.now y x.root q.result q.ensures o.result o.new.fallbacks o.new.uppers z.0 z.1 z.2,
      turn-uppers x.pairs.now x.marks.now x.t x.a.now x.ring.now x.s x.words.now x.fallbacks.now x.uppers.now (part r.result.first r.result.past x.flows.now) x.incoming.now x.reads.now x.writes.now y x.root q.result q.ensures o.result o.new.fallbacks o.new.uppers z.0 z.1 z.2,
      turn-element x.pairs.now x.marks.now x.t x.a.now x.ring.now x.s x.words.now x.fallbacks.now x.uppers.now (part r.result.first r.result.past x.flows.now) x.incoming.now x.reads.now x.writes.now y x.root q.result q.ensures o.result o.new.fallbacks o.new.uppers z.0 z.1 z.2,
      turn-array x.pairs.now x.marks.now x.t x.a.now x.ring.now x.s x.words.now x.fallbacks.now x.uppers.now (part r.result.first r.result.past x.flows.now) x.incoming.now x.reads.now x.writes.now y x.root q.result q.ensures o.result o.new.fallbacks o.new.uppers z.0 z.1 z.2,
    )

pub returns : goal.returns
returns c =
    let x = c.args in
    let p = c.requires in
    let r = c.run-to in
    let m = c.run-of in
    let y = flows-turnable x.pairs.now x.marks.now x.t (store x.a.now x.ring.now x.s) x.words.now x.fallbacks.now x.uppers.now x.flows.now x.incoming.now x.reads.now x.writes.now p.0 x.root r.result r.ensures in
    let o = c.gather-g in
    let q = c.asks-k in
    let z = turn-gathers x.pairs.now x.marks.now x.t x.a.now x.ring.now x.s x.words.now x.fallbacks.now x.uppers.now (part r.result.first r.result.past x.flows.now) x.incoming.now x.reads.now x.writes.now y x.root m.result m.ensures q.result (world_of x.pairs.now x.marks.now x.t) o.result x.fallbacks.now o.new.fallbacks x.uppers.now o.new.uppers o.ensures in
    c.pass_rules.ensures ∙ turn-additions x.pairs.now x.marks.now x.t x.a.now x.ring.now x.s x.words.now x.fallbacks.now x.uppers.now (part r.result.first r.result.past x.flows.now) x.incoming.now x.reads.now x.writes.now y x.root q.result q.ensures o.result o.new.fallbacks o.new.uppers z.0 z.1 z.2 (store x.a.now x.ring.now x.s) ∙ flows-turned x.pairs.now x.marks.now x.t (store x.a.now x.ring.now x.s) x.words.now x.fallbacks.now x.uppers.now x.flows.now x.incoming.now x.reads.now x.writes.now p.0 x.root r.result r.ensures
