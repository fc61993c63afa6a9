-- `bp_read_type_strict` meets its contract: the answer of what is read.
use mathlib.Core.Path.{ap, ◌∙◌}
use Rattle.bracepuffin.specs.Boundary.{type_answer}
use Rattle.bracepuffin.proofs.bp_read_type_strict.Goals as goal

pub returns : goal.returns
returns c = c.type_answer.ensures ∙ ap type_answer c.read_strict.ensures
