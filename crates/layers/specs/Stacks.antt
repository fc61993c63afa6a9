-- A stack of up to four layers, the lowest a plain table. A record goes to the topmost layer and is refused as over that layer alone; a layer
-- is opened without a record of its own.
use Rattle.std.specs.Prelude.{◌≡◌, true, cond, List, ℕ, ◌+◌, ◌*◌, ◌≤◌, ◌<◌, ◌/◌, ◌%◌, eqb, leb, length, replicate}
use Rattle.order.specs.Lists.{elem}
use Rattle.sorted.specs.Sorted.{Sorted}
use Rattle.tables.specs.declared.Tables.{Tables}
use Rattle.tables.specs.Table.{names_room, pairs_room, marks_room}
use Rattle.rows.specs.Rows.{State, record_refusal, record_row, filled}
use Rattle.layers.specs.declared.StackTables.{StackTables}
use Rattle.layers.specs.declared.StackOutcome.{StackOutcome}
use Rattle.layers.specs.Layers.{layers_room, Layered, layer_keys, layer_refusal, layer_row, opened, layered_of}

-- the topmost layer and what all show, and how many layers lie below it
pub record Stack : Type 0 where
  pub top : Layered
  pub under : ℕ

-- a table of one layer; which classes that one records is not kept apart
abbrev pub ground : State → Stack
ground s = record { top = opened s; under = 0 }

-- the layers with other numbers of their names
abbrev pub with_names : Stack → Tables → Stack
with_names s t = record { top = record { shown = record { tables = t; keys = s.top.shown.keys; marks = s.top.shown.marks }; own = s.top.own }; under = s.under }

-- the keys of the topmost layer
unfoldable pub top_keys : Stack → List ℕ
top_keys s = cond (eqb s.under 0) s.top.shown.keys (layer_keys s.top)

unfoldable pub stack_refusal : Stack → ℕ → ℕ → List ℕ → ℕ
stack_refusal s flags class parents =
    cond (eqb s.under 0) (record_refusal s.top.shown.tables.names s.top.shown.keys flags class parents) (layer_refusal s.top flags class parents)

-- after a record: a refused one changes nothing
unfoldable pub stack_row : Stack → ℕ → ℕ → List ℕ → Stack
stack_row s flags class parents =
    cond (eqb s.under 0) (record { top = record { shown = record_row s.top.shown flags class parents; own = s.top.own }; under = s.under })
    (record { top = layer_row s.top flags class parents; under = s.under })

-- a fifth layer is refused
unfoldable pub open_refusal : Stack → ℕ
open_refusal s = cond (leb 3 s.under) 8 0

unfoldable pub open_row : Stack → Stack
open_row s = cond (leb 3 s.under) s (record { top = opened s.top.shown; under = s.under + 1 })

-- a refusal, and the stack after it
pub record StackRan : Type 0 where
  pub refusal : ℕ
  pub state : Stack

abbrev pub stack_ran : Stack → ℕ → ℕ → List ℕ → StackRan
stack_ran s flags class parents = record { refusal = stack_refusal s flags class parents; state = stack_row s flags class parents }

abbrev pub open_ran : Stack → StackRan
open_ran s = record { refusal = open_refusal s; state = open_row s }

-- what every stack is that rows have made
pub record Upright (s : Stack) : Type 0 where
  pub few : s.top.shown.tables.names ≤ names_room
  pub short : s.top.shown.tables.bytes ≤ 24576
  pub ordered : Sorted s.top.shown.keys
  pub counted : s.top.shown.tables.pairs ≡ length s.top.shown.keys
  -- both classes of a pair are in the table
  pub classes : (z : ℕ) → elem z s.top.shown.keys ≡ true → (z / names_room < s.top.shown.tables.names) × (z % names_room < s.top.shown.tables.names)
  pub wide : length s.top.shown.marks ≡ marks_room
  pub own-wide : length s.top.own ≡ 16
  pub low : s.under ≤ 3
  -- the lowest layer keeps no set of its own
  pub own-none : s.under ≡ 0 → s.top.own ≡ replicate 16 0
  -- the room of one layer, and of those below
  pub top-room : length (top_keys s) ≤ pairs_room
  pub room : length s.top.shown.keys ≤ pairs_room * s.under + length (top_keys s)

-- ---- in slices

abbrev pub stack_of : List ℕ → List ℕ → StackTables → Stack
stack_of pairs marks n = record { top = layered_of pairs marks n.tables n.layer; under = n.under }

-- slices with room for four layers that hold such a stack, the keys of its topmost layer counted
pub record Holds (pairs marks : List ℕ) (n : StackTables) : Type 0 where
  pub long : length pairs ≡ layers_room
  pub upright : Upright (stack_of pairs marks n)
  pub layer-counted : n.layer.keys ≡ length (layer_keys (stack_of pairs marks n).top)

-- the numbers of a stack
abbrev pub numbers_of : Stack → StackTables
numbers_of s = record { tables = s.top.shown.tables; layer = record { own = record { words = s.top.own }; keys = length (layer_keys s.top) }; under = s.under }

-- what a result and two slices hold after a row: the keys in front of the pairs as they came
pub record FillsStack (after : StackRan) (pairs pairs' marks' : List ℕ) (r : StackOutcome) : Type 0 where
  pub outcome-is : r ≡ record { refusal = after.refusal; stack = numbers_of after.state }
  pub pairs-are : pairs' ≡ filled after.state.top.shown.keys pairs
  pub marks-are : marks' ≡ after.state.top.shown.marks

-- a layer more, by the numbers alone
unfoldable pub opened_tables : StackTables → StackOutcome
opened_tables n =
    cond (leb 3 n.under) (record { refusal = 8; stack = n })
    (record { refusal = 0; stack = record { tables = n.tables; layer = record { own = record { words = replicate 16 0 }; keys = 0 }; under = n.under + 1 } })
