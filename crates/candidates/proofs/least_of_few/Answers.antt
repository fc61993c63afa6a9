-- `least_of_few` meets its contract: the best so far is the least hint of the bounds from the place on that the loop has come to.
use mathlib.Core.Path.{sym, ap, ◌∙◌}
use mathlib.Core.List.{map}
use mathlib.Core.Option.{Option}
use Prim.Native.Nat.{ℕ, ◌-◌}
use native.Mathlib.Omega.{arith}
use lib.ListN.{length}
use Rattle.ty.specs.Types.{ArgType, concrete_hint}
use Rattle.ty.specs.Words.{type_of}
use Rattle.ty.specs.Answers.{maybe_word}
use Rattle.lattice.specs.Lattice.{candidate, least_hint, most_specific_upper}
use Rattle.lattice.specs.World.{world_of}
use Rattle.candidates.specs.Maybe.{maybe-word}
use Rattle.candidates.specs.Steps.{types_from, least-end}
use Rattle.candidates.proofs.Back.{turn, turned, legal-turn, least-turn}
use Rattle.candidates.proofs.least_of_few.Goals as goal

pub loop-word-init : goal.loop-word-init
loop-word-init c =
    let a = c.args in
    (tt, sym (least-end (world_of a.pairs.now a.marks.now a.t) (map type_of a.upper.now) a.upper.now (length a.upper.now - 0) (omega arith)))

pub with_bound-best-requires : goal.with_bound-best-requires
with_bound-best-requires c =
    let a = c.args in
    let p = c.requires in
    let l = c.loop-word in
    let x = c.in-Some.field-0 in
    (p.0, p.1, p.2, legal-turn a.upper.now l.yielded x (turn a.upper.now c.into_iter-word-iterator.result (cc) l.yielded _ l.yielded_by _ _ c.in-Some.field-0 c.in-Some.is c.next.ensures.steps) p.2, l.invariant.0)

pub loop-word-preserved : goal.loop-word-preserved
loop-word-preserved c =
    let a = c.args in
    let l = c.loop-word in
    let x = c.in-Some.field-0 in
    let w = world_of a.pairs.now a.marks.now a.t in
    let r = c.with_bound-best.ensures in (
      r.0,
      r.1
          ∙ ap (λ (o : Option ArgType). candidate w (map type_of a.upper.now) (concrete_hint a.t.object (type_of x.now)) o) l.invariant.1
          ∙ sym (least-turn a.upper.now l.yielded x (turn a.upper.now c.into_iter-word-iterator.result (cc) l.yielded _ l.yielded_by _ _ c.in-Some.field-0 c.in-Some.is c.next.ensures.steps) w (map type_of a.upper.now)),
    )

pub returns : goal.returns
unfolding most_specific_upper
returns c =
    let a = c.args in
    let l = c.loop-word in
    maybe-word l.best l.invariant.0
    ∙ ap maybe_word (l.invariant.1 ∙ ap (λ (k : ℕ). least_hint (world_of a.pairs.now a.marks.now a.t) (map type_of a.upper.now) (types_from k a.upper.now)) (turned a.upper.now c.into_iter-word-iterator.result (cc) l.yielded _ l.yielded_by _ _ c.in-None.is c.next.ensures.steps))
