-- `without_if` meets its contract.
use mathlib.Core.Path.{◌∙◌}
use Rattle.supertype.proofs.without_if.Goals as goal

pub returns-then-taken : goal.returns-then-taken
returns-then-taken c = c.without.ensures ∙ simp c.if-taken.true
