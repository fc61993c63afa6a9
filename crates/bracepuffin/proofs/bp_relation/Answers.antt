-- `bp_relation` meets its contract: the answer of the question, and the work that it leaves.
use mathlib.Core.Path.{ap, ◌∙◌}
use Rattle.questions.specs.Questions.{value_of, answer_of}
use Rattle.bracepuffin.specs.Boundary.{relation_answer, relation_told}
use Rattle.bracepuffin.proofs.bp_relation.Goals as goal

pub returns : goal.returns
unfolding value_of answer_of relation_told
returns c = let r = c.ask-a.ensures in record { value = c.relation_answer.ensures ∙ ap relation_answer r.result; work_after = r.memory }
