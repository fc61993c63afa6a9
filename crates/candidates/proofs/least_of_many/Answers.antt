-- `least_of_many` meets its contract: the best so far is the least hint of the bounds from the place on that the loop has come to.
use mathlib.Core.Path.{sym, ap, ◌∙◌}
use mathlib.Core.List.{map}
use mathlib.Core.Option.{Option}
use Prim.Native.Nat.{ℕ, ◌-◌}
use native.Mathlib.Omega.{arith}
use lib.ListN.{length}
use Rattle.ty.specs.Types.{ArgType, concrete_hint}
use Rattle.ty.specs.Words.{type_of}
use Rattle.ty.specs.Answers.{maybe_word}
use Rattle.lattice.specs.Lattice.{candidate, least_hint, most_specific_upper}
use Rattle.lattice.specs.World.{world_of}
use Rattle.candidates.specs.Maybe.{maybe-word}
use Rattle.candidates.specs.Steps.{types_from, least-end}
use Rattle.candidates.specs.Groups.{grouped-zero, best-along, best-itself}
use Rattle.candidates.proofs.Back.{turn, turned, legal-turn, least-turn}
use Rattle.candidates.proofs.least_of_many.Goals as goal

pub loop-word-init : goal.loop-word-init
loop-word-init c =
    let a = c.args in
    let w = world_of a.pairs.now a.marks.now a.t in
    record {
      legal = tt;
      type = sym (least-end w (map type_of a.upper.now) a.upper.now (length a.upper.now - 0) (omega arith));
      group = grouped-zero w (map type_of a.upper.now) c.empty.result.words c.empty.ensures;
    }

pub with_any_bound-b-requires : goal.with_any_bound-b-requires
with_any_bound-b-requires c =
    let p = c.requires in
    let a = c.args in
    let l = c.loop-word in
    let x = c.in-Some.field-0 in (
      p.0,
      p.1,
      p.2,
      legal-turn a.upper.now l.yielded x (turn a.upper.now c.into_iter-word-iterator.result (cc) l.yielded _ l.yielded_by _ _ c.in-Some.field-0 c.in-Some.is c.next.ensures.steps) p.2,
      best-itself (world_of a.pairs.now a.marks.now a.t) (map type_of a.upper.now) l.b.best l.b.group.head l.b.group.rest l.b.group.classes.words l.invariant,
    )

pub loop-word-preserved : goal.loop-word-preserved
loop-word-preserved c =
    let a = c.args in
    let l = c.loop-word in
    let x = c.in-Some.field-0 in
    let b = c.with_any_bound-b.result in
    let w = world_of a.pairs.now a.marks.now a.t in
    best-along w (map type_of a.upper.now) b.best b.group.head b.group.rest b.group.classes.words c.with_any_bound-b.ensures
    (ap (λ (o : Option ArgType). candidate w (map type_of a.upper.now) (concrete_hint a.t.object (type_of x.now)) o) l.invariant.type
    ∙ sym (least-turn a.upper.now l.yielded x (turn a.upper.now c.into_iter-word-iterator.result (cc) l.yielded _ l.yielded_by _ _ c.in-Some.field-0 c.in-Some.is c.next.ensures.steps) w (map type_of a.upper.now)))

pub returns : goal.returns
unfolding most_specific_upper
returns c =
    let a = c.args in
    let l = c.loop-word in
    maybe-word l.b.best l.invariant.legal
    ∙ ap maybe_word (l.invariant.type ∙ ap (λ (k : ℕ). least_hint (world_of a.pairs.now a.marks.now a.t) (map type_of a.upper.now) (types_from k a.upper.now)) (turned a.upper.now c.into_iter-word-iterator.result (cc) l.yielded _ l.yielded_by _ _ c.in-None.is c.next.ensures.steps))
