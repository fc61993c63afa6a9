-- `send_type` meets its contract: its word, if there is one.
use mathlib.Core.Path.{sym, ap, ◌∙◌, subst}
use Rattle.sending.specs.Sending.{LegalMaybe, sent_maybe}
use Rattle.sending.proofs.send_type.Goals as goal

pub send_word-requires : goal.send_word-requires
send_word-requires c = subst LegalMaybe c.in-Some.is c.requires

pub returns-in-Some : goal.returns-in-Some
returns-in-Some c = c.send_word.ensures ∙ sym (ap sent_maybe c.in-Some.is)
