-- The parameters' reader meets its contract: each way out is a step of `method_from`.
use Rattle.std.proofs.Common.{◌≡◌, ◌+◌, ◌-◌, ◌<◌, ℕ, List, length, take, drop, set, Ok, Err, Bool, true, false, sym, ap, subst, ◌∙◌, arith, rules, ne_eqb}
use Rattle.refusals.specs.Numbers.{number, number-some}
use Rattle.descriptor.specs.Read.{read}
use Rattle.descriptor.specs.Steps.{Placed}
use Rattle.descriptor.specs.Laws.{read-placed, found-tells}
use Rattle.descriptor.specs.Core.{lent-anew}
use Rattle.methods.specs.Answers.{method_read}
use Rattle.methods.specs.Params.{method_from}
use Rattle.methods.specs.Filled.{pick_l, left-same, left-end, left-close, left-full, left-refused, left-more}
use Rattle.methods.proofs.+read_params.Goals as goal

pub returns-then-s-at : goal.returns-then-s-at
returns-then-s-at t c =
    let a = c.args in
    let l = left-end a.s.now a.strict a.bad a.at a.count a.params.now c.if-s-at.true in
    (c.refused.ensures ∙ l.0, l.1)

pub returns-then-s-at-eq41 : goal.returns-then-s-at-eq41
returns-then-s-at-eq41 t c =
    let a = c.args in
    let l = left-close a.s.now a.strict a.bad a.at a.count a.params.now c.if-s-at.false c.if-s-at-eq41.true in
    (c.read_return.ensures ∙ l.0, l.1)

pub returns-then-count-ge-PARAMETERS : goal.returns-then-count-ge-PARAMETERS
returns-then-count-ge-PARAMETERS t c =
    let a = c.args in
    let l = left-full a.s.now a.strict a.bad a.at a.count a.params.now c.if-s-at.false c.if-s-at-eq41.false c.if-count-ge-PARAMETERS.true in
    (c.refused-then-count-ge-PARAMETERS.ensures ∙ l.0, l.1)

pub first_bad-worse-requires : goal.first_bad-worse-requires
first_bad-worse-requires t c =
    let a = c.args in
    subst (Placed (length a.s.now)) (sym c.read_type-t.ensures) (read-placed a.s.now a.at false)

pub read_params-requires : goal.read_params-requires
read_params-requires t c =
    let a = c.args in
    let p = c.requires in
    let f = (found-tells a.s.now a.at false _ _ _ (sym c.read_type-t.ensures ∙ ap read c.in_ok-found.was)).forward in
    let e = ap length (lent-anew a.s.now) in
    (let q : length (take (length a.s.now - 0) (drop 0 a.s.now)) - c.in_ok-found.found.next < t = omega arith in q, (p.0, omega arith, omega arith))

-- the offset is written where what follows was read
pub returns : goal.returns
returns t c =
    let a = c.args in
    let p = c.requires in
    let w = c.first_bad-worse in
    let q = c.read_params in
    let u = c.in_ok-found.found in
    let m = c.in_ok-method.method in
    left-more a.s.now a.strict a.bad a.at a.count a.params.now c.if-s-at.false c.if-s-at-eq41.false c.if-count-ge-PARAMETERS.false _ c.read_type-t.ensures u.dims u.base u.next
    (ap read c.in_ok-found.was) p.2 p.0 w.result w.ensures (method_read (Ok m)) q.new.params
    (left-same (a.count + 1) a.params.now _ _ (method_read (Ok m)) q.new.params (ap (λ (l : List ℕ). method_from l a.strict w.result u.next (a.count + 1)) (lent-anew a.s.now))
    (sym (ap method_read c.in_ok-method.was) ∙ q.ensures.0, q.ensures.1))

-- and not where that was refused
pub returns-in_err-method : goal.returns-in_err-method
returns-in_err-method t c =
    let a = c.args in
    let p = c.requires in
    let w = c.first_bad-worse in
    let q = c.read_params in
    let u = c.in_ok-found.found in
    let g = c.in_err-method.field-0.0 in
    let f : Err g ≡ c.from_residual-in_err-method.result = search rules in
    let l =
    left-more a.s.now a.strict a.bad a.at a.count a.params.now c.if-s-at.false c.if-s-at-eq41.false c.if-count-ge-PARAMETERS.false _ c.read_type-t.ensures u.dims u.base u.next
    (ap read c.in_ok-found.was) p.2 p.0 w.result w.ensures (method_read (Err g)) q.new.params
    (left-same (a.count + 1) a.params.now _ _ (method_read (Err g)) q.new.params (ap (λ (l : List ℕ). method_from l a.strict w.result u.next (a.count + 1)) (lent-anew a.s.now))
    (sym (ap method_read c.in_err-method.was) ∙ q.ensures.0, q.ensures.1))
    in (
      sym (ap method_read f) ∙ l.0,
      sym (ap (λ (b : Bool). pick_l b (set q.new.params a.count a.at) q.new.params) (ne_eqb (number g.refusal) 0 (number-some g.refusal))) ∙ l.1,
    )

pub returns-in_err-found : goal.returns-in_err-found
returns-in_err-found t c =
    let a = c.args in
    let f : Err c.in_err-found.field-0.0 ≡ c.from_residual.result = search rules in
    let l =
    left-refused a.s.now a.strict a.bad a.at a.count a.params.now c.if-s-at.false c.if-s-at-eq41.false c.if-count-ge-PARAMETERS.false _ c.read_type-t.ensures _ _ _
    (ap read c.in_err-found.was) in
    (sym (ap method_read f) ∙ l.0, l.1)
