-- The rows that columns hold, some of which open a layer, taken one after the other until one is refused.
use Rattle.std.specs.Prelude.{◌≡◌, cond, ◌&&◌, List, [], ◌∷◌, ℕ, suc, ◌*◌, ◌≤◌, eqb, length, take, drop, replicate}
use Rattle.tables.specs.declared.Tables.{Tables}
use Rattle.tables.specs.Table.{pairs_room}
use Rattle.rows.specs.declared.Outcome.{Outcome}
use Rattle.rows.specs.Rows.{no_tables, State, Ran, state_of}
use Rattle.rows.specs.Laws.{Sound}
use Rattle.columns.specs.declared.TableColumns.{TableColumns}
use Rattle.columns.specs.Columns.{name_rows, inside, record_rows, EvenRecords}
use Rattle.layers.specs.declared.StackTables.{StackTables}
use Rattle.layers.specs.declared.StackOutcome.{StackOutcome}
use Rattle.layers.specs.Layers.{layers_room}
use Rattle.layers.specs.Stacks.{Stack, StackRan, ground, stack_ran, open_ran, stack_of, Holds}
use Rattle.gathering.specs.Gathering.{bits_room, keys_in}

-- the flags of a row that opens a layer: 0x80 and the number of the frame that does
abbrev pub open_flags : ℕ
open_flags = 142

-- such a row is of class 0 and lists no parent, else 3
unfoldable pub opening_row : ℕ → ℕ → Stack → StackRan
opening_row class len s = cond (eqb class 0 && eqb len 0) (open_ran s) (record { refusal = 3; state = s })

-- a row whose place is not inside is refused 3
unfoldable pub placed_row : List ℕ → ℕ → ℕ → ℕ → ℕ → Stack → StackRan
placed_row parents flags class at len s =
    cond (inside (length parents) at len) (cond (eqb flags open_flags) (opening_row class len s) (stack_ran s flags class (take len (drop at parents))))
    (record { refusal = 3; state = s })

-- row by row; the first refusal ends
unfoldable pub stack_rows : List ℕ → List ℕ → List ℕ → List ℕ → List ℕ → Stack → StackRan
stack_rows parents [] cs ats ls s = record { refusal = 0; state = s }
stack_rows parents (f ∷ fs) [] ats ls s = record { refusal = 0; state = s }
stack_rows parents (f ∷ fs) (c ∷ cs) [] ls s = record { refusal = 0; state = s }
stack_rows parents (f ∷ fs) (c ∷ cs) (a ∷ ats) [] s = record { refusal = 0; state = s }
stack_rows parents (f ∷ fs) (c ∷ cs) (a ∷ ats) (l ∷ ls) s =
    cond (eqb (placed_row parents f c a l s).refusal 0) (stack_rows parents fs cs ats ls (placed_row parents f c a l s).state)
    (placed_row parents f c a l s)

-- the rows of columns, and those from row i on
abbrev pub rows_of : TableColumns → Stack → StackRan
rows_of c = stack_rows c.parents.now c.rec_flags.now c.rec_class.now c.rec_at.now c.rec_len.now

abbrev pub rows_from : TableColumns → ℕ → Stack → StackRan
rows_from c i = stack_rows c.parents.now (drop i c.rec_flags.now) (drop i c.rec_class.now) (drop i c.rec_at.now) (drop i c.rec_len.now)

-- how many rows stand before the first that opens a layer
unfoldable pub first_open : List ℕ → ℕ
first_open [] = 0
first_open (f ∷ fs) = cond (eqb f open_flags) 0 (suc (first_open fs))

-- what rows of one layer come to, as a stack
abbrev pub grounded : Ran → StackRan
grounded r = record { refusal = r.refusal; state = ground r.state }

-- the first n of the records of columns, as those of a plain table
abbrev pub first_rows_of : ℕ → TableColumns → State → Ran
first_rows_of n c = record_rows c.parents.now (take n c.rec_flags.now) (take n c.rec_class.now) (take n c.rec_at.now) (take n c.rec_len.now)

-- n rows as those of a plain table, then the others
abbrev pub lowest_then : ℕ → List ℕ → List ℕ → List ℕ → List ℕ → List ℕ → State → StackRan
lowest_then n parents fs cs ats ls s =
    cond (eqb (record_rows parents (take n fs) (take n cs) (take n ats) (take n ls) s).refusal 0)
    (stack_rows parents (drop n fs) (drop n cs) (drop n ats) (drop n ls) (ground (record_rows parents (take n fs) (take n cs) (take n ats) (take n ls) s).state))
    (grounded (record_rows parents (take n fs) (take n cs) (take n ats) (take n ls) s))

-- what a result and two slices hold after rows: the stack. What stands past its keys is not told: keys come and go
pub record Keeps (after : StackRan) (pairs' marks' : List ℕ) (r : StackOutcome) : Type 0 where
  pub refusal-is : r.refusal ≡ after.refusal
  pub stack-is : stack_of pairs' marks' r.stack ≡ after.state
  pub holds : Holds pairs' marks' r.stack

-- the numbers of a table of one layer
abbrev pub lowest_tables : Tables → StackTables
lowest_tables t = record { tables = t; layer = record { own = record { words = replicate 16 0 }; keys = 0 }; under = 0 }

-- records in columns of equal length, and slices with room for four layers that hold no pair yet
abbrev pub Lowest : TableColumns → List ℕ → List ℕ → Tables → Type 0
Lowest c pairs marks t = EvenRecords c × (length pairs ≡ layers_room) × Sound (state_of pairs marks t) × (t.pairs ≡ 0)

-- records in columns of equal length, slices that hold a stack, and bits with room for every class and without a key
abbrev pub StackGatherable : TableColumns → List ℕ → List ℕ → StackTables → List ℕ → Type 0
StackGatherable c pairs marks s bits = EvenRecords c × Holds pairs marks s × (16 * s.tables.names ≤ length bits) × (length bits ≤ bits_room) × (keys_in bits ≡ [])

-- THE STACK OF A TABLE: the names' refusal; else the rows, from no pair and the marks as they came
unfoldable pub stack_table : Outcome → List ℕ → List ℕ → List ℕ → List ℕ → List ℕ → List ℕ → StackRan
stack_table named parents fs cs ats ls marks =
    let s : Stack = ground (record { tables = named.tables; keys = []; marks = marks }) in
    cond (eqb named.refusal 0) (stack_rows parents fs cs ats ls s) (record { refusal = named.refusal; state = s })

-- of columns
abbrev pub stack_table_of : TableColumns → List ℕ → StackRan
stack_table_of c marks = stack_table (name_rows c.names.now c.name_at.now c.name_len.now [] no_tables) c.parents.now c.rec_flags.now c.rec_class.now c.rec_at.now c.rec_len.now marks

-- ---- with room for the layers that there are

-- 4,096 words are enough where no row opens a layer, 16,384 for all rows
pub record RoomFor (fs pairs : List ℕ) : Type 0 where
  pub plain : length pairs ≡ pairs_room → first_open fs ≡ length fs
  pub layered : (length pairs ≡ pairs_room → ⊥) → length pairs ≡ layers_room

-- what a result and two slices hold after rows: what the layers together show. What stands past its keys is not told
pub record Shows (after : StackRan) (pairs' marks' : List ℕ) (r : Outcome) : Type 0 where
  pub refusal-is : r.refusal ≡ after.refusal
  pub shown-is : state_of pairs' marks' r.tables ≡ after.state.top.shown
