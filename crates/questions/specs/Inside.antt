-- What the inner functions promise each other: the checks over the tables as they were built, and slices that hold what the rows say.
use Rattle.std.specs.Prelude.{◌≡◌, Bool, true, false, cond, not, List, [], ◌∷◌, ℕ, ◌-◌, ◌^◌, eqb, length, replicate}
use Rattle.checks.specs.Checks.{Check, check, first_refusal}
use Rattle.view.specs.View.{View, ancestors}
use Rattle.tables.specs.declared.Tables.{Tables}
use Rattle.tables.specs.Table.{marks_room, view_of}
use Rattle.prepared.specs.Prepared.{table_room}
use Rattle.lattice.specs.Lattice.{World}
use Rattle.lattice.specs.World.{world_of}
use Rattle.joins.specs.Joins.{Fits}
use Rattle.rows.specs.declared.Outcome.{Outcome}
use Rattle.columns.specs.Given.{Given}
use Rattle.layercolumns.specs.LayerColumns.{Shows}
use Rattle.tableview.specs.TableRows.{rows_view, rows_world}
use Rattle.stackview.specs.LayerRows.{shown_in}
use Rattle.stackview.specs.Shown.{checked_stack}
use Rattle.questions.specs.declared.Question.{Question}
use Rattle.questions.specs.declared.Answer.{Answer}
use Rattle.questions.specs.declared.Ancestors.{Ancestors}
use Rattle.questions.specs.Questions.{of_types, good_numbers, table_checks, value_of, answered, gathered}

-- what the table of the columns leaves in two slices
abbrev pub Builds : Given → List ℕ → List ℕ → Outcome → Type 0
Builds g pairs' marks' r = Shows (checked_stack g) pairs' marks' r

-- the checks after the rows: their own, the numbers', that of Object
unfoldable pub ran_checks : ℕ → Tables → Bool → List ℕ → List Check
ran_checks refusal t types numbers =
    check (not (eqb refusal 0)) refusal
    ∷ check (not (good_numbers types t.names numbers)) (cond types 7 6)
    ∷ check (eqb t.object (2 ^ 64 - 1)) 9
    ∷ []

-- answers where the work was long enough
unfoldable pub table_answer : Given → Question → ℕ → ℕ → Answer
table_answer g q a b = answered (first_refusal (table_checks g (of_types q) (a ∷ b ∷ []))) (value_of (rows_view (shown_in g)) (rows_world (shown_in g)) q a b)

unfoldable pub table_ancestors : Given → ℕ → Ancestors
table_ancestors g class = gathered (first_refusal (table_checks g false (class ∷ []))) (ancestors (rows_view (shown_in g)) class)

abbrev pub no_ancestors : ℕ → Ancestors
no_ancestors refusal = record { refusal = refusal; count = 0; lowest = 0; set = record { words = replicate 16 0 } }

-- the slices hold the view and the world of the rows, and both numbers are classes, or types
pub record Ready (g : Given) (types : Bool) (a b : ℕ) (pairs marks : List ℕ) (t : Tables) : Type 0 where
  pub view-is : view_of pairs marks t ≡ rows_view (shown_in g)
  pub world-is : world_of pairs marks t ≡ rows_world (shown_in g)
  pub wide : length marks ≡ marks_room
  pub fits : Fits t
  pub numbers-in : good_numbers types t.names (a ∷ b ∷ []) ≡ true

-- the refusal, and where there is none the slices are ready
pub record Opens (g : Given) (types : Bool) (a b : ℕ) (pairs marks : List ℕ) (r : Outcome) : Type 0 where
  pub refusal-is : r.refusal ≡ first_refusal (table_checks g types (a ∷ b ∷ []))
  pub ready : r.refusal ≡ 0 → Ready g types a b pairs marks r.tables

-- a slice of keys alone
abbrev pub NoRows : List ℕ → Type 0
NoRows pairs = length pairs ≡ table_room → ⊥

-- the ancestors are asked of one class: both numbers are it
abbrev pub Single : Bool → Question → ℕ → ℕ → Type 0
Single set q a b = set ≡ true → (of_types q ≡ false) × (b ≡ a)

-- a table that was opened, and where nothing is refused two numbers that may be asked about
pub record Askable (o : Outcome) (q : Question) (a b : ℕ) (pairs marks : List ℕ) : Type 0 where
  pub keys-alone : NoRows pairs
  pub wide : o.refusal ≡ 0 → length marks ≡ marks_room
  pub fits : o.refusal ≡ 0 → Fits o.tables
  pub numbers-in : o.refusal ≡ 0 → good_numbers (of_types q) o.tables.names (a ∷ b ∷ []) ≡ true

-- what it tells: the ancestors of the first number, or the answer
abbrev pub TellsOver : Outcome → View → World → Bool → Question → ℕ → ℕ → Answer → Ancestors → Type 0
TellsOver o v w set q a b answer found = (set ≡ false → answer ≡ answered o.refusal (value_of v w q a b)) × (set ≡ true → found ≡ gathered o.refusal (ancestors v a))

-- the same of the rows
abbrev pub Tells : Given → Bool → Question → ℕ → ℕ → Answer → Ancestors → Type 0
Tells g set q a b answer found = (set ≡ false → answer ≡ table_answer g q a b) × (set ≡ true → found ≡ table_ancestors g a)
