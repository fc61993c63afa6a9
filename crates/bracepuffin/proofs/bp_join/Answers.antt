-- `bp_join` meets its contract: the answer of the question, and the work that it leaves.
use mathlib.Core.Path.{ap, ◌∙◌}
use Rattle.questions.specs.Questions.{value_of, answer_of}
use Rattle.bracepuffin.specs.Boundary.{number_answer, join_told}
use Rattle.bracepuffin.proofs.bp_join.Goals as goal

pub returns : goal.returns
unfolding value_of answer_of join_told
returns c = let r = c.ask-a.ensures in record { value = c.number_answer.ensures ∙ ap number_answer r.result; work_after = r.memory }
