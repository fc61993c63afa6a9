-- `is_assignable_to_each` meets its contract: the bounds from the place on that the loop has come to take the candidate.
use mathlib.Core.Path.{sym, ◌∙◌, ap}
use mathlib.Core.Bool.{Bool, ◌&&◌}
use Prim.Native.Nat.{ℕ, ◌-◌}
use native.Mathlib.Omega.{arith}
use lib.ListN.{length}
use Rattle.std.specs.List.{push}
use Rattle.ty.specs.Words.{type_of}
use Rattle.lattice.specs.Lattice.{assignable_to_all}
use Rattle.lattice.specs.World.{world_of}
use Rattle.candidates.specs.Steps.{types_from, all-end}
use Rattle.candidates.specs.Groups.{refused-from}
use Rattle.candidates.proofs.Back.{place, turn, turned, legal-turn, all-turn}
use Rattle.candidates.proofs.is_assignable_to_each.Goals as goal

pub loop-word-init : goal.loop-word-init
loop-word-init c =
    let a = c.args in
    all-end a.upper.now (length a.upper.now - 0) (world_of a.pairs.now a.marks.now a.t) (type_of a.candidate.word) (omega arith)

pub is_assignable-requires : goal.is_assignable-requires
is_assignable-requires c =
    let a = c.args in
    let p = c.requires in
    let l = c.loop-word in
    let x = c.in-Some.field-0 in
    (p.0, p.1, legal-turn a.upper.now l.yielded x (turn a.upper.now c.into_iter-word-iterator.result (cc) l.yielded _ l.yielded_by _ _ c.in-Some.field-0 c.in-Some.is c.next.ensures.steps) p.2)

pub loop-word-preserved : goal.loop-word-preserved
loop-word-preserved c =
    let a = c.args in
    let l = c.loop-word in
    let x = c.in-Some.field-0 in
    all-turn a.upper.now l.yielded x (turn a.upper.now c.into_iter-word-iterator.result (cc) l.yielded _ l.yielded_by _ _ c.in-Some.field-0 c.in-Some.is c.next.ensures.steps) (world_of a.pairs.now a.marks.now a.t) (type_of a.candidate.word)
    ∙ ap (λ (b : Bool). b && assignable_to_all (world_of a.pairs.now a.marks.now a.t) (type_of a.candidate.word) (types_from (place a.upper.now l.yielded) a.upper.now)) (sym c.is_assignable.ensures ∙ c.if-not-is_assignable.false)
    ∙ l.invariant

pub returns-then-not-is_assignable : goal.returns-then-not-is_assignable
returns-then-not-is_assignable c =
    let a = c.args in
    let l = c.loop-word in
    let x = c.in-Some.field-0 in
    let w = world_of a.pairs.now a.marks.now a.t in
    sym (refused-from w (type_of a.candidate.word) a.upper.now (place a.upper.now (push l.yielded x))
    (all-turn a.upper.now l.yielded x (turn a.upper.now c.into_iter-word-iterator.result (cc) l.yielded _ l.yielded_by _ _ c.in-Some.field-0 c.in-Some.is c.next.ensures.steps) w (type_of a.candidate.word)
    ∙ ap (λ (b : Bool). b && assignable_to_all w (type_of a.candidate.word) (types_from (place a.upper.now l.yielded) a.upper.now)) (sym c.is_assignable.ensures ∙ c.if-not-is_assignable.true)))

pub returns : goal.returns
returns c =
    let a = c.args in
    let l = c.loop-word in
    sym (ap (λ (k : ℕ). assignable_to_all (world_of a.pairs.now a.marks.now a.t) (type_of a.candidate.word) (types_from k a.upper.now)) (sym (turned a.upper.now c.into_iter-word-iterator.result (cc) l.yielded _ l.yielded_by _ _ c.in-None.is c.next.ensures.steps)) ∙ l.invariant)
