-- Each way out is a case of `closing`.
use Rattle.std.proofs.Common.{◌≡◌, sym, ap, ◌∙◌, rules, Err}
use borrow.Author.Tests.{not-true, not-false}
use Rattle.descriptor.specs.Read.{read, strictly}
use Rattle.methods.specs.Strict.{closing-plain, closing-refused, closing-bad, closing-strict}
use Rattle.methods.proofs.closed.Goals as goal

pub returns-then-not-strict : goal.returns-then-not-strict
returns-then-not-strict c = closing-plain c.args.s.now c.args.strict c.args.bad (read c.args.t) (not-true _ c.if-not-strict.true-raw)

pub returns-then-bad-eq0 : goal.returns-then-bad-eq0
returns-then-bad-eq0 c =
    let w = ap read c.in_ok-t.was in
    c.judged.ensures
    ∙ ap (strictly c.args.s.now) w
    ∙ closing-strict c.args.s.now c.args.strict c.args.bad (read c.args.t) (not-false _ c.if-not-strict.false-raw) _ _ _ w c.if-bad-eq0.true

pub returns : goal.returns
returns c =
    c.not_strict.ensures
    ∙ closing-bad c.args.s.now c.args.strict c.args.bad (read c.args.t) (not-false _ c.if-not-strict.false-raw) _ _ _ (ap read c.in_ok-t.was) c.if-bad-eq0.false

pub returns-in_err-t : goal.returns-in_err-t
returns-in_err-t c =
    let f : Err c.in_err-t.field-0.0 ≡ c.from_residual.result = search rules in
    sym (ap read f) ∙ closing-refused c.args.s.now c.args.strict c.args.bad (read c.args.t) (not-false _ c.if-not-strict.false-raw) _ _ _ (ap read c.in_err-t.was)
