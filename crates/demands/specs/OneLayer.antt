-- ONE LAYER IS AS BEFORE, OF THE EXPORTED FUNCTIONS: where no row opens a layer, what each of them promises is what the rows of a plain table
-- come to, refusals included.
use Rattle.std.specs.Prelude.{◌≡◌, ℕ}
use Rattle.std.proofs.Math.Path.{ap}
use Rattle.columns.specs.Given.{Given}
use Rattle.questions.specs.declared.Question.TheVariants.{Relation, Distance, Supertype, Cast, Join, Assignable}
use Rattle.questions.specs.Questions.{value_of, answer_of, ancestors_of}
use Rattle.questionlaws.specs.OneLayer.{Plain, plain_answer, plain_ancestors, question-plain, ancestors-plain}
use Rattle.problems.specs.Problems.{Columns}
use Rattle.solving.specs.Solving.{Solution}
use Rattle.solves.specs.SolveResult.{Lent, counts_of}
use Rattle.solvelaws.specs.OneLayer.{plain_solve, solve-as-before}
use Rattle.bracepuffin.specs.Boundary.{relation_answer, number_answer, set_answer, solved_answer, relation_told, distance_told, ancestors_told, supertype_told, cast_told, join_told, assignable_told, solved_told}

module _ (g : Given) (none : Plain g) (a b room : ℕ) where
  pub relation-before : relation_told g a b room ≡ relation_answer (plain_answer g Relation a b room)
  unfolding relation_told value_of answer_of
  relation-before = ap relation_answer (question-plain g none Relation a b room)

  pub distance-before : distance_told g a b room ≡ number_answer (plain_answer g Distance a b room)
  unfolding distance_told value_of answer_of
  distance-before = ap number_answer (question-plain g none Distance a b room)

  pub supertype-before : supertype_told g a b room ≡ number_answer (plain_answer g Supertype a b room)
  unfolding supertype_told value_of answer_of
  supertype-before = ap number_answer (question-plain g none Supertype a b room)

  pub cast-before : cast_told g a b room ≡ number_answer (plain_answer g Cast a b room)
  unfolding cast_told value_of answer_of
  cast-before = ap number_answer (question-plain g none Cast a b room)

  pub join-before : join_told g a b room ≡ number_answer (plain_answer g Join a b room)
  unfolding join_told value_of answer_of
  join-before = ap number_answer (question-plain g none Join a b room)

  pub assignable-before : assignable_told g a b room ≡ number_answer (plain_answer g Assignable a b room)
  unfolding assignable_told value_of answer_of
  assignable-before = ap number_answer (question-plain g none Assignable a b room)

  pub ancestors-before : ancestors_told g a room ≡ set_answer (plain_ancestors g a room)
  unfolding ancestors_told ancestors_of
  ancestors-before = ap set_answer (ancestors-plain g none a room)

pub solve-before : (g : Given) → Plain g → (c : Columns) (lent : Lent) → solved_told g c lent ≡ solved_answer (counts_of (plain_solve g c lent))
unfolding solved_told
solve-before g none c lent = ap (λ (s : Solution). solved_answer (counts_of s)) (solve-as-before g none c lent)
