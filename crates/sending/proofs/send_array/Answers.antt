-- `send_array` meets its contract: only of a concrete type.
use mathlib.Core.Path.{sym, ap, ◌∙◌, subst}
use mathlib.Core.Bool.{Bool, cond}
use Rattle.ty.specs.Types.{Array}
use Rattle.ty.specs.Words.{type_of}
use Rattle.inserting.specs.declared.Sent.TheVariants.{Nothing}
use Rattle.inserting.specs.Store.{sent_of}
use Rattle.sending.specs.Sending.{LegalMaybe, sent_array}
use Rattle.sending.proofs.send_array.Goals as goal

pub send_array_of-requires : goal.send_array_of-requires
send_array_of-requires c = subst LegalMaybe c.in-Some.is c.requires

pub returns-then-is_concrete : goal.returns-then-is_concrete
returns-then-is_concrete c = c.send_array_of.ensures
    ∙ sym (ap sent_array c.in-Some.is ∙ ap (λ (b : Bool). cond b (sent_of (Array (type_of c.in-Some.t.word))) Nothing) (sym c.is_concrete.ensures ∙ c.if-is_concrete.true))

pub returns-else-is_concrete : goal.returns-else-is_concrete
returns-else-is_concrete c = sym (ap sent_array c.in-Some.is ∙ ap (λ (b : Bool). cond b (sent_of (Array (type_of c.in-Some.t.word))) Nothing) (sym c.is_concrete.ensures ∙ c.if-is_concrete.false))
