-- What the inner functions promise each other: the records by the layers that they leave.
use Rattle.std.specs.Prelude.{◌≡◌, cond, List, [], ◌∷◌, ℕ, suc, ◌+◌, eqb, length, drop}
use Rattle.tables.specs.declared.Tables.{Tables}
use Rattle.rows.specs.declared.Outcome.{Outcome}
use Rattle.rows.specs.Rows.{State}
use Rattle.rows.specs.Laws.{Sound}
use Rattle.columns.specs.declared.TableColumns.{TableColumns}
use Rattle.columns.specs.Given.{no_marks}
use Rattle.layers.specs.Stacks.{Stack, StackRan}
use Rattle.layercolumns.specs.LayerColumns.{placed_row, stack_rows}
use Rattle.tablecheck.specs.declared.Stop.{Stop}

-- how many records are taken before the first that is refused
unfoldable pub placed_taken : List ℕ → List ℕ → List ℕ → List ℕ → List ℕ → Stack → ℕ
placed_taken parents [] cs ats ls s = 0
placed_taken parents (f ∷ fs) [] ats ls s = 0
placed_taken parents (f ∷ fs) (c ∷ cs) [] ls s = 0
placed_taken parents (f ∷ fs) (c ∷ cs) (a ∷ ats) [] s = 0
placed_taken parents (f ∷ fs) (c ∷ cs) (a ∷ ats) (l ∷ ls) s =
    cond (eqb (placed_row parents f c a l s).refusal 0) (suc (placed_taken parents fs cs ats ls (placed_row parents f c a l s).state)) 0

-- their refusal, and where
abbrev pub stop_of : List ℕ → List ℕ → List ℕ → List ℕ → List ℕ → Stack → Stop
stop_of parents fs cs ats ls s = record { refusal = (stack_rows parents fs cs ats ls s).refusal; row = placed_taken parents fs cs ats ls s }

-- of the records of columns
abbrev pub stop_in : TableColumns → Stack → Stop
stop_in c = stop_of c.parents.now c.rec_flags.now c.rec_class.now c.rec_at.now c.rec_len.now

-- names, and no record yet
abbrev pub unrecorded : Tables → State
unrecorded t = record { tables = t; keys = []; marks = no_marks }

-- what rows come to, without the keys and marks
abbrev pub came_to : StackRan → Outcome
came_to ran = record { refusal = ran.refusal; tables = ran.state.top.shown.tables }

-- columns of equal length
abbrev pub Equal : List ℕ → List ℕ → List ℕ → List ℕ → Type 0
Equal fs cs ats ls = (length fs ≡ length cs) × (length fs ≡ length ats) × (length fs ≡ length ls)

-- what the names of a table leave
pub record Fresh (t : Tables) : Type 0 where
  pub sound : Sound (unrecorded t)
  pub none : t.pairs ≡ 0

-- the first i records of all are taken, from a stack to another, and the others are as they are from there
pub record Gone (parents fs cs ats ls : List ℕ) (start : Stack) (i : ℕ) (s : Stack) : Type 0 where
  pub refusal-is : (stack_rows parents fs cs ats ls start).refusal ≡ (stack_rows parents (drop i fs) (drop i cs) (drop i ats) (drop i ls) s).refusal
  pub taken-is : placed_taken parents fs cs ats ls start ≡ i + placed_taken parents (drop i fs) (drop i cs) (drop i ats) (drop i ls) s
