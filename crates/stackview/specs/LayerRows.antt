-- A class table of several layers as plain rows: what a reader must believe of layers. A row with flags 0x8e opens a layer; every other row is a
-- record of the topmost one. Where a layer above records a class again, what a row lists for it is hidden; the facts that it declares are not.
use Rattle.std.specs.Prelude.{Bool, true, false, cond, ◌||◌, List, [], ◌∷◌, ℕ, eqb}
use Rattle.columns.specs.Given.{Given}
use Rattle.layercolumns.specs.LayerColumns.{open_flags}
use Rattle.tableview.specs.TableRows.{Record, Rows, rows_in}

abbrev pub opens_layer : Record → Bool
opens_layer r = eqb r.flags open_flags

-- some layer records the class
unfoldable pub has_record : ℕ → List Record → Bool
has_record c [] = false
has_record c (r ∷ rs) = cond (opens_layer r) (has_record c rs) (eqb r.class c || has_record c rs)

-- a layer does that is opened among these rows
unfoldable pub recorded_above : ℕ → List Record → Bool
recorded_above c [] = false
recorded_above c (r ∷ rs) = cond (opens_layer r) (has_record c rs) (recorded_above c rs)

-- a row without what it lists
abbrev pub hidden : Bool → Record → Record
hidden true r = record { flags = r.flags; class = r.class; parents = [] }
hidden false r = r

-- WHAT THE LAYERS TOGETHER SHOW, as the rows of one table
unfoldable pub shown_rows : List Record → List Record
shown_rows [] = []
shown_rows (r ∷ rs) = cond (opens_layer r) (shown_rows rs) (hidden (recorded_above r.class rs) r ∷ shown_rows rs)

abbrev pub shown_table : Rows → Rows
shown_table t = record { names = t.names; records = shown_rows t.records }

-- of the rows that columns hold
unfoldable pub shown_in : Given → Rows
shown_in g = shown_table (rows_in g)
