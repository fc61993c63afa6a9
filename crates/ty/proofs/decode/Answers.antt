-- `decode` meets its contract: a type where the word is legal.
use mathlib.Core.Path.{sym, ◌∙◌}
use Rattle.ty.specs.Answers.{decode-good, decode-bad}
use Rattle.ty.proofs.decode.Goals as goal

pub returns-then-is_legal : goal.returns-then-is_legal
returns-then-is_legal c = decode-good _ _ (sym c.is_legal.ensures ∙ c.if-is_legal.true)

pub returns-else-is_legal : goal.returns-else-is_legal
returns-else-is_legal c = decode-bad _ _ (sym c.is_legal.ensures ∙ c.if-is_legal.false)
