-- `relation_number` meets its contract.
use mathlib.Core.Path.{sym, ap}
use Rattle.view.specs.View.{relation_number}
use Rattle.questions.proofs.relation_number.Goals as goal

pub returns-in-Yes : goal.returns-in-Yes
unfolding relation_number
returns-in-Yes c = sym (ap relation_number c.in-Yes.is)

pub returns-in-No : goal.returns-in-No
unfolding relation_number
returns-in-No c = sym (ap relation_number c.in-No.is)

pub returns-in-Unknown : goal.returns-in-Unknown
unfolding relation_number
returns-in-Unknown c = sym (ap relation_number c.in-Unknown.is)
