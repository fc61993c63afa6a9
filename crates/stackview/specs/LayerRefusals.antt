-- What a table of several layers is refused with, in the words of its rows: the first row that is refused, names before records. The pairs that
-- count are those of a layer.
use Rattle.std.specs.Prelude.{Bool, cond, not, ◌&&◌, List, [], ◌∷◌, ◌++◌, ℕ, ◌+◌, eqb, leb, length, take, drop}
use Rattle.checks.specs.Checks.{Check, check, first_refusal, or_else}
use Rattle.names.specs.Names.{check_rows}
use Rattle.columns.specs.Columns.{inside}
use Rattle.columns.specs.Given.{Given}
use Rattle.layercolumns.specs.LayerColumns.{open_flags}
use Rattle.tableview.specs.TableRows.{names_of}
use Rattle.tableview.specs.RowRefusals.{Pair, listed, row_checks}

-- a row that opens a layer, in this order: outside its slice, LENGTH; of a class other than 0, or with parents, LENGTH; a fifth layer, ROOM
-- `under`: how many layers lie below the topmost
unfoldable pub open_checks : ℕ → Bool → ℕ → ℕ → List Check
open_checks under is-inside class len = check (not is-inside) 3 ∷ check (not (eqb class 0 && eqb len 0)) 3 ∷ check (leb 3 under) 8 ∷ []

-- what a row is refused with; `before`: the pairs of the rows before it in its layer
unfoldable pub layer_row_refusal : ℕ → List ℕ → ℕ → List Pair → ℕ → ℕ → ℕ → ℕ → ℕ
layer_row_refusal names parents under before f c a l =
    cond (eqb f open_flags) (first_refusal (open_checks under (inside (length parents) a l) c l))
    (first_refusal (row_checks names (inside (length parents) a l) f c (take l (drop a parents)) before))

-- what the next row finds: a layer that is opened has no pairs
abbrev pub under_after : ℕ → ℕ → ℕ
under_after f under = cond (eqb f open_flags) (under + 1) under

abbrev pub pairs_after : ℕ → ℕ → List ℕ → List Pair → List Pair
pairs_after f c ps before = cond (eqb f open_flags) [] (listed c ps ++ before)

-- row by row; the first refusal ends
unfoldable pub layers_refusal : ℕ → List ℕ → List ℕ → List ℕ → List ℕ → List ℕ → ℕ → List Pair → ℕ
layers_refusal names parents [] cs ats ls under before = 0
layers_refusal names parents (f ∷ fs) [] ats ls under before = 0
layers_refusal names parents (f ∷ fs) (c ∷ cs) [] ls under before = 0
layers_refusal names parents (f ∷ fs) (c ∷ cs) (a ∷ ats) [] under before = 0
layers_refusal names parents (f ∷ fs) (c ∷ cs) (a ∷ ats) (l ∷ ls) under before =
    or_else (layer_row_refusal names parents under before f c a l) (layers_refusal names parents fs cs ats ls (under_after f under) (pairs_after f c (take l (drop a parents)) before))

-- ---- THE REFUSAL OF A TABLE: the names', else the rows'

unfoldable pub stack_refusal_of : Given → ℕ
stack_refusal_of g =
    or_else (check_rows g.names g.name_at g.name_len [] 0 0)
    (layers_refusal (length (names_of g.names g.name_at g.name_len)) g.parents g.rec_flags g.rec_class g.rec_at g.rec_len 0 [])
