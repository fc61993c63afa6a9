-- The loop meets its contract: whether the name is strict is whether what is left of it goes on strictly.
use Rattle.std.proofs.Common.{◌+◌, ◌-◌, Bool, false, not, sym, ap, ◌∙◌, eqb, length, take, drop, get_or, arith}
use Rattle.methods.specs.Strict.{pick_b, parts-end, parts-at}
use Rattle.descriptor.specs.Core.{lent-anew}
use Rattle.descriptor.specs.Read.{parts_from, strict_name}
use Rattle.methods.proofs.is_strict.Goals as goal

pub loop-b-init : goal.loop-b-init
unfolding strict_name
loop-b-init c = ap (parts_from false) (sym (lent-anew c.args.name.now))

pub returns-then-stops : goal.returns-then-stops
returns-then-stops c =
    let s = c.args.name.now in
    let i = c.loop-b.b-index in
    sym (c.loop-b.invariant
    ∙ parts-at s i (length s) (not (eqb c.loop-b.last 47)) (omega arith) (omega arith)
    ∙ ap (λ (t : Bool). pick_b t false (parts_from (not (eqb (get_or s i 0) 47)) (take (length s - (i + 1)) (drop (i + 1) s)))) (sym c.stops.ensures ∙ c.if-stops.true))

pub loop-b-preserved : goal.loop-b-preserved
loop-b-preserved c =
    let s = c.args.name.now in
    let i = c.loop-b.b-index in
    c.loop-b.invariant
    ∙ parts-at s i (length s) (not (eqb c.loop-b.last 47)) (omega arith) (omega arith)
    ∙ ap (λ (t : Bool). pick_b t false (parts_from (not (eqb (get_or s i 0) 47)) (take (length s - (i + 1)) (drop (i + 1) s)))) (sym c.stops.ensures ∙ c.if-stops.false)

pub returns : goal.returns
returns c = let s = c.args.name.now in sym (c.loop-b.invariant ∙ parts-end s c.loop-b.b-index (length s) (not (eqb c.loop-b.last 47)) (omega arith))
