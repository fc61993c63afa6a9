-- `send_element` meets its contract: by what `element` answers.
use mathlib.Core.Path.{sym, ap, ◌∙◌, subst}
use native.Mathlib.Omega.{arith}
use Rattle.sending.specs.Sending.{LegalMaybe, sent_maybe, sent_element}
use Rattle.sending.specs.Laws.{element-legal}
use Rattle.sending.proofs.send_element.Goals as goal

pub send_type-requires : goal.send_type-requires
send_type-requires c = subst LegalMaybe (sym c.element.ensures) (element-legal c.in-Some.t.word (omega arith) (subst LegalMaybe c.in-Some.is c.requires))

pub returns-in-Some : goal.returns-in-Some
returns-in-Some c = c.send_type.ensures ∙ ap sent_maybe c.element.ensures ∙ sym (ap sent_element c.in-Some.is)
