-- Each way out is a case of `strictly`; the name lies within the bytes.
use Rattle.std.proofs.Common.{◌≡◌, sym, ap, ◌∙◌, length, arith, rules, Err}
use Rattle.descriptor.specs.Read.{read, strictly}
use Rattle.methods.specs.Strict.{strictly-simple, class-placed, strictly-good, strictly-bad}
use Rattle.methods.proofs.judged.Goals as goal

pub overflow_add-at : goal.overflow_add-at
overflow_add-at c = let p = class-placed c.args.s.now (read c.args.t) _ _ _ (ap read c.in_ok-found.was) _ _ c.in-Class.is (length c.args.s.now) c.requires in omega arith

pub returns-then-is_strict : goal.returns-then-is_strict
returns-then-is_strict c =
    let w = ap read c.in_ok-found.was in w ∙ strictly-good c.args.s.now (read c.args.t) _ _ _ w _ _ c.in-Class.is (sym c.is_strict.ensures ∙ c.if-is_strict.true)

pub overflow_sub-at : goal.overflow_sub-at
overflow_sub-at c = (class-placed c.args.s.now (read c.args.t) _ _ _ (ap read c.in_ok-found.was) _ _ c.in-Class.is (length c.args.s.now) c.requires).0

pub returns-in-Simple : goal.returns-in-Simple
returns-in-Simple c = let w = ap read c.in_ok-found.was in w ∙ strictly-simple c.args.s.now (read c.args.t) _ _ _ w _ c.in-Simple.is

pub returns-else-is_strict : goal.returns-else-is_strict
returns-else-is_strict c =
    c.not_strict.ensures ∙ strictly-bad c.args.s.now (read c.args.t) _ _ _ (ap read c.in_ok-found.was) _ _ c.in-Class.is (sym c.is_strict.ensures ∙ c.if-is_strict.false)

pub returns-in_err-found : goal.returns-in_err-found
unfolding strictly
returns-in_err-found c =
    let f : Err c.in_err-found.field-0.0 ≡ c.from_residual.result = search rules in
    sym (ap read f) ∙ sym (ap (strictly c.args.s.now) (ap read c.in_err-found.was))
