-- What a question over slices comes to: its refusals in order, its answer in the words of the rows that the table's layers show, and the work at exit. All that
-- a caller must believe.
use Rattle.std.specs.Prelude.{◌≡◌, Bool, true, false, cond, not, List, [], ◌∷◌, ℕ, ◌-◌, ◌^◌, eqb, ltb, length, replicate}
use Rattle.sets.specs.Sets.{at, members, first}
use Rattle.ty.specs.Words.{all_legal, type_of, word_of}
use Rattle.checks.specs.Checks.{Check, check, first_refusal}
use Rattle.view.specs.View.{View, relation, relation_number, distance, number_of, ancestors, supertype, cast}
use Rattle.lattice.specs.Lattice.{World, join, is_assignable}
use Rattle.rows.specs.Rows.{all_below}
use Rattle.columns.specs.Given.{Given, even}
use Rattle.tableview.specs.TableRows.{rows_view, rows_world}
use Rattle.stackview.specs.LayerRows.{shown_in}
use Rattle.stackview.specs.LayerRefusals.{stack_refusal_of}
use Rattle.questions.specs.declared.Question.{Question}
use Rattle.questions.specs.declared.Question.TheVariants.{Relation, Distance, Supertype, Cast, Join, Assignable}
use Rattle.questions.specs.declared.Answer.{Answer}
use Rattle.questions.specs.declared.Ancestors.{Ancestors}

-- ---- refusals

-- asked of two types, and not of two classes
abbrev pub of_types : Question → Bool
of_types Relation = false
of_types Distance = false
of_types Supertype = false
of_types Cast = false
of_types Join = true
of_types Assignable = true

-- each word is a type over the names; each number is a class
unfoldable pub good_numbers : Bool → ℕ → List ℕ → Bool
good_numbers types names numbers = cond types (all_legal names numbers) (all_below names numbers)

-- in order: columns of unequal length; what a row is refused with; a word that is no type, or a number that is no class; no name is
-- java/lang/Object
unfoldable pub table_checks : Given → Bool → List ℕ → List Check
table_checks g types numbers =
    check (not (even g)) 3
    ∷ check (not (eqb (stack_refusal_of g) 0)) (stack_refusal_of g)
    ∷ check (not (good_numbers types (rows_view (shown_in g)).names numbers)) (cond types 7 6)
    ∷ check (eqb (rows_view (shown_in g)).object (2 ^ 64 - 1)) 9
    ∷ []

-- before all, a work of `room` words that is too short
unfoldable pub refusal_of : Given → Bool → List ℕ → ℕ → ℕ
refusal_of g types numbers room = first_refusal (check (ltb room 8192) 22 ∷ table_checks g types numbers)

abbrev pub question_refusal : Given → Question → ℕ → ℕ → ℕ → ℕ
question_refusal g q a b room = refusal_of g (of_types q) (a ∷ b ∷ []) room

abbrev pub ancestors_refusal : Given → ℕ → ℕ → ℕ
ancestors_refusal g class room = refusal_of g false (class ∷ []) room

-- ---- answers; a refused one is its number, and zero in every other field

-- what is asked, as a number: of classes over a view, of types over a world
unfoldable pub value_of : View → World → Question → ℕ → ℕ → ℕ
value_of v w Relation value expected = relation_number (relation v value expected)
value_of v w Distance value expected = number_of (distance v value expected)
value_of v w Supertype left right = number_of (supertype v left right)
value_of v w Cast source target = cond (cast v source target) 1 0
value_of v w Join left right = word_of (join w (type_of left) (type_of right))
value_of v w Assignable value expected = cond (is_assignable w (type_of value) (type_of expected)) 1 0

unfoldable pub answered : ℕ → ℕ → Answer
answered refusal value = record { refusal = refusal; value = cond (eqb refusal 0) value 0 }

-- a set, how many are in it and the least of them
unfoldable pub gathered : ℕ → List ℕ → Ancestors
gathered refusal words =
    cond (eqb refusal 0)
    (record { refusal = 0; count = length (members (at words) 0 1024); lowest = first (at words) 1024; set = record { words = words } })
    (record { refusal = refusal; count = 0; lowest = 0; set = record { words = replicate 16 0 } })

-- OF THE ROWS THAT THE COLUMNS' LAYERS SHOW
unfoldable pub answer_of : Given → Question → ℕ → ℕ → ℕ → Answer
answer_of g q a b room = answered (question_refusal g q a b room) (value_of (rows_view (shown_in g)) (rows_world (shown_in g)) q a b)

unfoldable pub ancestors_of : Given → ℕ → ℕ → Ancestors
ancestors_of g class room = gathered (ancestors_refusal g class room) (ancestors (rows_view (shown_in g)) class)

-- ---- the work at exit: zero, but as it came where it is too short

unfoldable pub work_after : List ℕ → List ℕ
work_after work = cond (ltb (length work) 8192) work (replicate (length work) 0)

-- what a question promises of its result and of the work
pub record Asked (g : Given) (q : Question) (a b : ℕ) (work work' : List ℕ) (r : Answer) : Type 0 where
  pub result : r ≡ answer_of g q a b (length work)
  pub memory : work' ≡ work_after work

pub record Gathers (g : Given) (class : ℕ) (work work' : List ℕ) (r : Ancestors) : Type 0 where
  pub result : r ≡ ancestors_of g class (length work)
  pub memory : work' ≡ work_after work
