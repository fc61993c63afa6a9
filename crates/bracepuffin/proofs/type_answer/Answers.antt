-- `type_answer` meets its contract, by what was read.
use Rattle.std.proofs.Common.{sym, ap, ◌∙◌, Result}
use Rattle.descriptor.specs.declared.TypeAt.{TypeAt}
use Rattle.descriptor.specs.declared.Unread.{Unread}
use Rattle.descriptor.specs.Read.{read}
use Rattle.bracepuffin.specs.Boundary.{type_answer}
use Rattle.bracepuffin.proofs.type_answer.Goals as goal

pub returns-in-Ok : goal.returns-in-Ok
returns-in-Ok c = c.type_found.ensures ∙ sym (ap (λ (x : Result TypeAt Unread). type_answer (read x)) c.in-Ok.is)

pub returns-in-Err : goal.returns-in-Err
returns-in-Err c = rw c.from.ensures (sym (ap (λ (x : Result TypeAt Unread). type_answer (read x)) c.in-Err.is))
