-- `method_answer` meets its contract, by what was read.
use Rattle.std.proofs.Common.{sym, ap, ◌∙◌, Result}
use Rattle.descriptor.specs.declared.Unread.{Unread}
use Rattle.methods.specs.declared.MethodAt.{MethodAt}
use Rattle.methods.specs.Answers.{method_read}
use Rattle.bracepuffin.specs.Boundary.{bp_method}
use Rattle.bracepuffin.proofs.method_answer.Goals as goal

pub returns-in-Ok : goal.returns-in-Ok
returns-in-Ok c = c.method_found.ensures ∙ sym (ap (λ (x : Result MethodAt Unread). bp_method (method_read x)) c.in-Ok.is)

pub returns-in-Err : goal.returns-in-Err
returns-in-Err c = rw c.from.ensures (sym (ap (λ (x : Result MethodAt Unread). bp_method (method_read x)) c.in-Err.is))
