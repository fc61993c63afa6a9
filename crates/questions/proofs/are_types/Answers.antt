-- `are_types` meets its contract: the first word, then the second one.
use mathlib.Core.Path.{sym, ◌∙◌}
use Rattle.questions.specs.Laws.{types-right, types-left}
use Rattle.questions.proofs.are_types.Goals as goal

pub returns-then-is_legal : goal.returns-then-is_legal
returns-then-is_legal c = c.is_legal-then-is_legal.ensures ∙ types-right _ _ _ (sym c.is_legal.ensures ∙ c.if-is_legal.true)

pub returns : goal.returns
returns c = types-left _ _ _ (sym c.is_legal.ensures ∙ c.if-is_legal.false)
