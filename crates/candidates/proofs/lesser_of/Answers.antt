-- `lesser_of` meets its contract.
use borrow.Author.Rules.{rules}
use mathlib.Core.Path.{sym, ◌∙◌}
use Rattle.ty.specs.Words.{type_of}
use Rattle.candidates.specs.Maybe.{lesser-less, lesser-equal, lesser-greater}
use Rattle.candidates.proofs.lesser_of.Goals as goal

pub returns-in-Less : goal.returns-in-Less
returns-in-Less c = (search rules, sym (lesser-less (type_of c.args.t.word) (type_of c.args.u.word) (sym c.compare_types.ensures ∙ c.in-Less.is)))

pub returns-in-Equal : goal.returns-in-Equal
returns-in-Equal c = (search rules, sym (lesser-equal (type_of c.args.t.word) (type_of c.args.u.word) (sym c.compare_types.ensures ∙ c.in-Equal.is)))

pub returns-in-Greater : goal.returns-in-Greater
returns-in-Greater c = (search rules, sym (lesser-greater (type_of c.args.t.word) (type_of c.args.u.word) (sym c.compare_types.ensures ∙ c.in-Greater.is)))
