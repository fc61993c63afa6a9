-- The type after the ')', finished and judged, as an answer.
use Rattle.std.proofs.Common.{◌≡◌, ◌+◌, true, length, sym, ap, subst, ◌∙◌, rules, Err}
use Rattle.std.specs.Prelude.{Result}
use Rattle.descriptor.specs.declared.TypeAt.{TypeAt}
use Rattle.descriptor.specs.declared.Unread.{Unread}
use Rattle.descriptor.specs.Read.{read}
use Rattle.descriptor.specs.Steps.{Placed}
use Rattle.descriptor.specs.Laws.{finish-placed}
use Rattle.methods.specs.Answers.{MethodRead, method_read, answer_of}
use Rattle.methods.specs.Filled.{answer-ending}
use Rattle.methods.proofs.read_return.Goals as goal

pub closed-requires : goal.closed-requires
closed-requires c =
    let a = c.args in
    subst (Placed (length a.s.now)) (sym c.read_last-f.ensures) (finish-placed a.s.now (a.close + 1) true)

pub returns-in_err-g : goal.returns-in_err-g
returns-in_err-g c =
    let a = c.args in
    let f : Err c.in_err-g.field-0.0 ≡ c.from_residual.result = search rules in
    sym (ap method_read f)
    ∙ ap {B = MethodRead} (λ (x : Result TypeAt Unread). answer_of a.count (a.close + 1) (read x)) (sym c.in_err-g.was)
    ∙ ap (answer_of a.count (a.close + 1)) c.closed.ensures
    ∙ answer-ending a.s.now a.strict a.bad a.close a.count (read c.read_last-f.result) c.read_last-f.ensures

pub returns : goal.returns
returns c =
    let a = c.args in
    ap {B = MethodRead} (λ (x : Result TypeAt Unread). answer_of a.count (a.close + 1) (read x)) (sym c.in_ok-g.was)
    ∙ ap (answer_of a.count (a.close + 1)) c.closed.ensures
    ∙ answer-ending a.s.now a.strict a.bad a.close a.count (read c.read_last-f.result) c.read_last-f.ensures
