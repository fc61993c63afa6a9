-- Where a class table is refused, and with what, in the words of its rows: all that a caller must believe.
use Rattle.std.specs.Prelude.{cond, not, List, [], ◌∷◌, ℕ, suc, ◌+◌, ◌-◌, ◌^◌, eqb, length, take, drop}
use Rattle.names.specs.Names.{name_of, check_row, check_rows}
use Rattle.columns.specs.Given.{Given, even}
use Rattle.tableview.specs.TableRows.{names_of, rows_view}
use Rattle.tableview.specs.RowRefusals.{Pair}
use Rattle.stackview.specs.LayerRows.{shown_in}
use Rattle.stackview.specs.LayerRefusals.{layer_row_refusal, under_after, pairs_after, layers_refusal}
use Rattle.tablecheck.specs.declared.TableCheck.{TableCheck}

-- ---- how many rows are taken before the first that is refused: its number; all, where none is

-- as `check_rows` goes through them
unfoldable pub names_taken : List ℕ → List ℕ → List ℕ → List ℕ → ℕ → ℕ → ℕ
names_taken bytes [] lens last count total = 0
names_taken bytes (at ∷ ats) [] last count total = 0
names_taken bytes (at ∷ ats) (len ∷ lens) last count total =
    cond (eqb (check_row bytes at len last count total) 0) (suc (names_taken bytes ats lens (name_of bytes at len) (suc count) (total + len))) 0

-- as `layers_refusal` goes through them
unfoldable pub records_taken : ℕ → List ℕ → List ℕ → List ℕ → List ℕ → List ℕ → ℕ → List Pair → ℕ
records_taken names parents [] cs ats ls under before = 0
records_taken names parents (f ∷ fs) [] ats ls under before = 0
records_taken names parents (f ∷ fs) (c ∷ cs) [] ls under before = 0
records_taken names parents (f ∷ fs) (c ∷ cs) (a ∷ ats) [] under before = 0
records_taken names parents (f ∷ fs) (c ∷ cs) (a ∷ ats) (l ∷ ls) under before =
    cond (eqb (layer_row_refusal names parents under before f c a l) 0)
    (suc (records_taken names parents fs cs ats ls (under_after f under) (pairs_after f c (take l (drop a parents)) before)))
    0

-- ---- of the columns

abbrev pub names_refused : Given → ℕ
names_refused g = check_rows g.names g.name_at g.name_len [] 0 0

abbrev pub name_stopped : Given → ℕ
name_stopped g = names_taken g.names g.name_at g.name_len [] 0 0

abbrev pub names_many : Given → ℕ
names_many g = length (names_of g.names g.name_at g.name_len)

abbrev pub records_refused : Given → ℕ
records_refused g = layers_refusal (names_many g) g.parents g.rec_flags g.rec_class g.rec_at g.rec_len 0 []

abbrev pub record_stopped : Given → ℕ
record_stopped g = records_taken (names_many g) g.parents g.rec_flags g.rec_class g.rec_at g.rec_len 0 []

-- ---- THE CHECK OF A TABLE

abbrev pub told : ℕ → ℕ → ℕ → TableCheck
told refusal part row = record { refusal = refusal; part = part; row = row }

-- columns of equal length: 1 a name, 2 a record, 3 no name is java/lang/Object
unfoldable pub rows_check : Given → TableCheck
rows_check g =
    cond (not (eqb (names_refused g) 0)) (told (names_refused g) 1 (name_stopped g))
    (cond (not (eqb (records_refused g) 0)) (told (records_refused g) 2 (record_stopped g))
    (cond (eqb (rows_view (shown_in g)).object (2 ^ 64 - 1)) (told 9 3 0) (told 0 0 0)))

-- any columns: 0 of unequal length
unfoldable pub table_check : Given → TableCheck
table_check g = cond (even g) (rows_check g) (told 3 0 0)
