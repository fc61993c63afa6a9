-- `answer` meets its contract: the copy from the component's own keys stands for its state.
use mathlib.Core.Path.{ap, ◌∙◌}
use native.Mathlib.Omega.{arith}
use Rattle.ty.specs.Answers.{maybe_word}
use Rattle.lattice.specs.World.{world_of}
use Rattle.solving.specs.Solving.{TypeState, resolve_state}
use Rattle.answering.specs.Cut.{cut-within, cut-sorted, cut-short, cut-parts, cut-words}
use Rattle.answering.specs.FromFinal.{final-sorted, parts-order, parts-legal, parts-state}
use Rattle.answering.proofs.answer.Goals as goal

pub offset_bounds-keys-of : goal.offset_bounds-keys-of
offset_bounds-keys-of c =
    let x = c.args in
    let p = c.requires in
    omega (arith, cut-within x.component x.keys.now (final-sorted x.t p.0.1 x.keys.now p.1) c.run-of.result c.run-of.ensures)

pub slice_bounds-copy_state-count : goal.slice_bounds-copy_state-count
slice_bounds-copy_state-count c =
    let x = c.args in
    let p = c.requires in
    omega (arith, cut-within x.component x.keys.now (final-sorted x.t p.0.1 x.keys.now p.1) c.run-of.result c.run-of.ensures)

pub slice_bounds-copy_state-start : goal.slice_bounds-copy_state-start
slice_bounds-copy_state-start c =
    let x = c.args in
    let p = c.requires in
    omega (arith, cut-within x.component x.keys.now (final-sorted x.t p.0.1 x.keys.now p.1) c.run-of.result c.run-of.ensures)

pub slice_bounds-copy_state-end : goal.slice_bounds-copy_state-end
slice_bounds-copy_state-end c =
    let x = c.args in
    let p = c.requires in
    omega (arith, cut-within x.component x.keys.now (final-sorted x.t p.0.1 x.keys.now p.1) c.run-of.result c.run-of.ensures)

pub copy_state-p-requires : goal.copy_state-p-requires
copy_state-p-requires c =
    let x = c.args in
    let p = c.requires in
    let r = c.run-of in
    let s = final-sorted x.t p.0.1 x.keys.now p.1 in (
      cut-sorted x.component x.keys.now s r.result r.ensures,
      p.2,
      omega (arith, p.3, cut-short x.component x.keys.now s r.result r.ensures),
    )

pub answer_from-requires : goal.answer_from-requires
answer_from-requires c =
    let x = c.args in
    let p = c.requires in
    let r = c.run-of in
    let o = c.copy_state-p in
    let s = final-sorted x.t p.0.1 x.keys.now p.1 in
    let e = cut-parts x.component x.keys.now s r.result r.ensures o.result o.ensures.0 in
    let f = cut-words x.component x.keys.now s r.result r.ensures x.out.now o.new.out o.ensures.1 in (
      p.0,
      parts-order x.t p.0.1 x.keys.now p.1 x.component x.out.now o.new.out f o.result e (omega (arith, p.3, o.auto.out)),
      parts-legal x.t p.0.1 x.keys.now p.1 x.component x.out.now o.new.out f o.result e,
    )

pub returns : goal.returns
returns c =
    let x = c.args in
    let p = c.requires in
    let r = c.run-of in
    let o = c.copy_state-p in
    let s = final-sorted x.t p.0.1 x.keys.now p.1 in
    let e = cut-parts x.component x.keys.now s r.result r.ensures o.result o.ensures.0 in
    let f = cut-words x.component x.keys.now s r.result r.ensures x.out.now o.new.out o.ensures.1 in
    c.answer_from.ensures
    ∙ ap (λ (z : TypeState). maybe_word (resolve_state (world_of x.pairs.now x.marks.now x.t) z))
    (parts-state x.t p.0.1 x.keys.now p.1 x.component x.out.now o.new.out f o.result e)
