-- `one_hint` meets its contract: the hints of the types from `i` on are what was found alone.
use mathlib.Core.Path.{◌≡◌, sym, ap, ◌∙◌, subst}
use mathlib.Core.List.{map}
use mathlib.Core.Option.{Option}
use Prim.Native.Nat.{ℕ, ◌-◌, ◌^◌, ◌<◌}
use native.Mathlib.Omega.{arith}
use lib.ListN.{length, get_or}
use Rattle.ty.specs.Answers.{MaybeType}
use Rattle.ty.specs.Types.{ArgType}
use Rattle.ty.specs.Words.{type_of}
use Rattle.candidates.specs.Maybe.{LegalMaybe, maybe_type, hint-type, hint-word}
use Rattle.candidates.specs.Steps.{types_from}
use Rattle.solving.specs.Solving.{list_of, hint_of, hints_of}
use Rattle.solving.specs.Resolve.{single}
use Rattle.resolving.specs.Laws.{legal-word, object-small}
use Rattle.resolving.specs.Hints.{hints-end, hints-step, either-legal, hint-same, Two, hint-other, hints-two, two-single, one-single}
use Rattle.resolving.proofs.one_hint.Goals as goal

pub loop-i-init : goal.loop-i-init
loop-i-init c =
    let a = c.args in
    (omega arith, tt, hints-end a.t.object a.domain.now (length a.domain.now) (omega arith))

pub concrete_hint-hint-requires : goal.concrete_hint-hint-requires
concrete_hint-hint-requires c =
    let a = c.args in
    object-small a.t c.requires.0

pub both_differ-requires : goal.both_differ-requires
both_differ-requires c = tt

pub returns-then-both_differ : goal.returns-then-both_differ
returns-then-both_differ c =
    let a = c.args in
    let l = c.loop-i in
    let h = c.concrete_hint-hint in
    let object = a.t.object in
    let x = get_or a.domain.now (l.i - 1) 0 in
    let f : x < 2 ^ 64 = omega (arith, (c.type_inv.domain (l.i - 1)).fits) in
    let legal = legal-word a.t c.requires.0 x (c.requires.1 (l.i - 1) (omega arith)) in
    let small = object-small a.t c.requires.0 in
    let step : hints_of object (types_from (l.i - 1) a.domain.now) ≡ hint_of (maybe_type h.result) (list_of (maybe_type l.found)) =
    hints-step object a.domain.now l.i (omega arith) (omega arith)
    ∙ ap (λ (o : Option ArgType). hint_of o (hints_of object (types_from l.i a.domain.now))) (sym (hint-type object x h.result small f legal h.ensures))
    ∙ ap (hint_of (maybe_type h.result)) l.invariant.2 in
    let known = hint-word object x h.result small f legal h.ensures in
    (tt, two-single (hints_of object (map type_of a.domain.now)) (hints-two object (l.i - 1) a.domain.now (subst Two (sym step) (hint-other h.result l.found known l.invariant.1 (sym c.both_differ.ensures ∙ c.if-both_differ.true)))))

pub either-found-requires : goal.either-found-requires
either-found-requires c = tt

pub loop-i-preserved : goal.loop-i-preserved
loop-i-preserved c =
    let a = c.args in
    let l = c.loop-i in
    let h = c.concrete_hint-hint in
    let object = a.t.object in
    let x = get_or a.domain.now (l.i - 1) 0 in
    let f : x < 2 ^ 64 = omega (arith, (c.type_inv.domain (l.i - 1)).fits) in
    let legal = legal-word a.t c.requires.0 x (c.requires.1 (l.i - 1) (omega arith)) in
    let small = object-small a.t c.requires.0 in
    let step : hints_of object (types_from (l.i - 1) a.domain.now) ≡ hint_of (maybe_type h.result) (list_of (maybe_type l.found)) =
    hints-step object a.domain.now l.i (omega arith) (omega arith)
    ∙ ap (λ (o : Option ArgType). hint_of o (hints_of object (types_from l.i a.domain.now))) (sym (hint-type object x h.result small f legal h.ensures))
    ∙ ap (hint_of (maybe_type h.result)) l.invariant.2 in
    let known = hint-word object x h.result small f legal h.ensures in
    (omega arith, subst LegalMaybe (sym c.either-found.ensures) (either-legal h.result l.found known l.invariant.1), step ∙ hint-same h.result l.found (sym c.both_differ.ensures ∙ c.if-both_differ.false) ∙ ap (λ (m : MaybeType). list_of (maybe_type m)) (sym c.either-found.ensures))

pub returns : goal.returns
returns c =
    let a = c.args in
    let l = c.loop-i in
    (l.invariant.1, sym (one-single (maybe_type l.found)) ∙ ap single (sym l.invariant.2) ∙ ap (λ (k : ℕ). single (hints_of a.t.object (types_from k a.domain.now))) (let q : l.i ≡ 0 = omega arith in q))
