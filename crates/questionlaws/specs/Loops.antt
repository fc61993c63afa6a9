-- THE LOOP OF `subtype_relation`, as hierarchy.rs has it, over the rows of a question that is not refused: it ends, with the relation that is
-- answered.
use Rattle.std.specs.Prelude.{◌≡◌, ℕ}
use Rattle.std.proofs.Math.Option.{some}
use Rattle.view.specs.declared.Relation.{Relation}
use Rattle.view.specs.View.{relation}
use Rattle.view.specs.Loops.{subtype_relation}
use Rattle.columns.specs.Given.{Given}
use Rattle.tableview.specs.TableRows.{rows_view}
use Rattle.stackview.specs.LayerRows.{shown_in}
use Rattle.tableview.proofs.Bare.{rows-relation, rows-relation-ends}
use Rattle.questions.specs.declared.Question.TheVariants.{Relation as Related}
use Rattle.questions.specs.Questions.{question_refusal}
use Rattle.questionlaws.specs.Accepted.{accepted}

module _ (g : Given) (value expected room : ℕ) (h : question_refusal g Related value expected room ≡ 0) where
  pub loop-relation : (n : ℕ) (r : Relation) → subtype_relation (rows_view (shown_in g)) value expected n ≡ some r → r ≡ relation (rows_view (shown_in g)) value expected
  loop-relation =
      let k = accepted g Related value expected room h in
      rows-relation (shown_in g) k.good value expected k.numbers-in.0

  pub loop-relation-ends : (n : ℕ) × (subtype_relation (rows_view (shown_in g)) value expected n ≡ some (relation (rows_view (shown_in g)) value expected))
  loop-relation-ends =
      let k = accepted g Related value expected room h in
      rows-relation-ends (shown_in g) k.good value expected k.numbers-in.0
