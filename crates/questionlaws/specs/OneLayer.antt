-- ONE LAYER IS AS BEFORE, of questions: where no row opens a layer, a question is refused and answered by the rows of a plain table alone.
use Rattle.std.specs.Prelude.{◌≡◌, Bool, cond, not, List, [], ◌∷◌, ℕ, ◌-◌, ◌^◌, eqb, ltb, length}
use Rattle.std.proofs.Math.Path.{refl, ap₂}
use Rattle.std.proofs.Math.Bool.{true, false}
use Rattle.checks.specs.Checks.{Check, check, first_refusal}
use Rattle.view.specs.View.{ancestors}
use Rattle.columns.specs.Given.{Given, even}
use Rattle.layercolumns.specs.LayerColumns.{first_open}
use Rattle.tableview.specs.TableRows.{Rows, rows_view, rows_world, rows_in}
use Rattle.tableview.specs.RowRefusals.{table_refusal}
use Rattle.stackview.specs.LayerRows.{shown_in}
use Rattle.stackview.proofs.OneLayer.{plain-refusal, plain-rows}
use Rattle.questions.specs.declared.Question.{Question}
use Rattle.questions.specs.declared.Answer.{Answer}
use Rattle.questions.specs.declared.Ancestors.{Ancestors}
use Rattle.questions.specs.Questions.{of_types, good_numbers, table_checks, refusal_of, value_of, answered, gathered, answer_of, ancestors_of}

-- all rows stand before the first that opens a layer
abbrev pub Plain : Given → Type 0
Plain g = first_open g.rec_flags ≡ length g.rec_flags

-- the checks of a plain table, in the words of its own rows
unfoldable pub plain_checks : Given → Bool → List ℕ → List Check
plain_checks g types numbers =
    check (not (even g)) 3
    ∷ check (not (eqb (table_refusal g) 0)) (table_refusal g)
    ∷ check (not (good_numbers types (rows_view (rows_in g)).names numbers)) (cond types 7 6)
    ∷ check (eqb (rows_view (rows_in g)).object (2 ^ 64 - 1)) 9
    ∷ []

unfoldable pub plain_refusal : Given → Bool → List ℕ → ℕ → ℕ
plain_refusal g types numbers room = first_refusal (check (ltb room 8192) 22 ∷ plain_checks g types numbers)

abbrev pub plain_answer : Given → Question → ℕ → ℕ → ℕ → Answer
plain_answer g q a b room = answered (plain_refusal g (of_types q) (a ∷ b ∷ []) room) (value_of (rows_view (rows_in g)) (rows_world (rows_in g)) q a b)

abbrev pub plain_ancestors : Given → ℕ → ℕ → Ancestors
plain_ancestors g class room = gathered (plain_refusal g false (class ∷ []) room) (ancestors (rows_view (rows_in g)) class)

module _ (g : Given) (none : Plain g) where
  same : shown_in g ≡ rows_in g
  same = plain-rows g none

  refusal-plain : (types : Bool) (numbers : List ℕ) (room : ℕ) → refusal_of g types numbers room ≡ plain_refusal g types numbers room
  unfolding refusal_of plain_refusal table_checks plain_checks first_refusal
  refusal-plain types numbers room = go (even g) refl
    where
      go : (b : Bool) → even g ≡ b → refusal_of g types numbers room ≡ plain_refusal g types numbers room
      go true e = rw (same, plain-refusal g e none)
      go false e = rw e

  -- A QUESTION ABOUT CLASSES OR TYPES, AND THE ANCESTORS OF A CLASS
  pub question-plain : (q : Question) (a b room : ℕ) → answer_of g q a b room ≡ plain_answer g q a b room
  unfolding answer_of
  question-plain q a b room = ap₂ (λ (k : ℕ) (t : Rows). answered k (value_of (rows_view t) (rows_world t) q a b)) (refusal-plain (of_types q) (a ∷ b ∷ []) room) same

  pub ancestors-plain : (class room : ℕ) → ancestors_of g class room ≡ plain_ancestors g class room
  unfolding ancestors_of
  ancestors-plain class room = ap₂ (λ (k : ℕ) (t : Rows). gathered k (ancestors (rows_view t) class)) (refusal-plain false (class ∷ []) room) same
