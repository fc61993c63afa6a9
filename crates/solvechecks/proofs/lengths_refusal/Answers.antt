-- `lengths_refusal` meets its contract: too short, even, uneven.
use mathlib.Core.Path.{sym, ◌∙◌}
use Rattle.solvechecks.specs.Steps.{lengths-short, lengths-even, lengths-uneven}
use Rattle.solvechecks.proofs.lengths_refusal.Goals as goal

pub returns-then-is_short : goal.returns-then-is_short
returns-then-is_short c = lengths-short _ _ (sym c.is_short.ensures ∙ c.if-is_short.true)

pub returns-then-is_even_problem : goal.returns-then-is_even_problem
returns-then-is_even_problem c = lengths-even _ _ (sym c.is_short.ensures ∙ c.if-is_short.false) (sym c.is_even_problem.ensures ∙ c.if-is_even_problem.true)

pub returns : goal.returns
returns c = lengths-uneven _ _ (sym c.is_short.ensures ∙ c.if-is_short.false) (sym c.is_even_problem.ensures ∙ c.if-is_even_problem.false)
