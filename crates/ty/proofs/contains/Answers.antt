-- `contains` meets its contract. The invariant: the digits passed do not have d.
use Rattle.std.proofs.Common.{◌+◌, refl, sym, ap, ◌∙◌, Bool, ◌||◌, arith, eq-eqb, ne_eqb}
use Rattle.order.specs.Lists.{elem}
use Rattle.ty.specs.Steps.{rest_of, elem-step, elem-none}
use Rattle.ty.proofs.contains.Goals as goal

pub loop-i-init : goal.loop-i-init
loop-i-init c = (omega arith, refl)

pub returns-then-digit-d : goal.returns-then-digit-d
returns-then-digit-d c =
    let a = c.args in
    let l = c.loop-i in
    sym (l.invariant.1 ∙ elem-step a.load a.n l.i a.d (omega arith) (omega arith)
    ∙ ap (λ (t : Bool). t || elem a.d (rest_of a.load a.n (l.i + 1))) (eq-eqb _ _ (sym c.digit.ensures ∙ c.if-digit-d.true)))

pub loop-i-preserved : goal.loop-i-preserved
loop-i-preserved c =
    let a = c.args in
    let l = c.loop-i in (
      omega arith,
      l.invariant.1 ∙ elem-step a.load a.n l.i a.d (omega arith) (omega arith)
          ∙ ap (λ (t : Bool). t || elem a.d (rest_of a.load a.n (l.i + 1))) (ne_eqb _ _ (λ e. c.if-digit-d.false (c.digit.ensures ∙ e))),
    )

pub returns : goal.returns
returns c =
    let a = c.args in
    sym (c.loop-i.invariant.1 ∙ elem-none a.load a.n c.loop-i.i a.d (omega arith))
