-- `bp_ancestors` meets its contract: the answer of the question, and the work that it leaves.
use mathlib.Core.Path.{ap, ◌∙◌}
use Rattle.questions.specs.Questions.{ancestors_of}
use Rattle.bracepuffin.specs.Boundary.{set_answer, ancestors_told}
use Rattle.bracepuffin.proofs.bp_ancestors.Goals as goal

pub returns : goal.returns
unfolding ancestors_of ancestors_told
returns c = let r = c.ancestors_of-a.ensures in record { value = c.set_answer.ensures ∙ ap set_answer r.result; work_after = r.memory }
