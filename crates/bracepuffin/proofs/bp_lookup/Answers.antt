-- `bp_lookup` meets its contract: the answer of what is looked up.
use mathlib.Core.Path.{ap, ◌∙◌}
use Rattle.bracepuffin.specs.Boundary.{found_answer}
use Rattle.bracepuffin.proofs.bp_lookup.Goals as goal

pub returns : goal.returns
returns c = c.found_answer.ensures ∙ ap found_answer c.look_up.ensures
