-- `bp_check_table` meets its contract: the answer of the check.
use mathlib.Core.Path.{ap, ◌∙◌}
use Rattle.bracepuffin.specs.Boundary.{check_answer}
use Rattle.bracepuffin.proofs.bp_check_table.Goals as goal

pub returns : goal.returns
returns c = c.check_answer.ensures ∙ ap check_answer c.check_table.ensures
