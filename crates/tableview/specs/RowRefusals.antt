-- What a table of columns is refused with, in the words of its rows: the first row that is refused, names before records. No key, no mark: the
-- pairs of a class and a parent are a list.
use Rattle.std.specs.Prelude.{Bool, false, cond, not, ◌&&◌, ◌||◌, List, [], ◌∷◌, ◌++◌, ℕ, suc, eqb, ltb, length, take, drop}
use Rattle.checks.specs.Checks.{Check, check, first_refusal, or_else}
use Rattle.names.specs.Names.{check_rows}
use Rattle.rows.specs.Rows.{good_flags, all_below}
use Rattle.columns.specs.Columns.{inside}
use Rattle.columns.specs.Given.{Given}
use Rattle.tableview.specs.TableRows.{names_of}

-- ---- pairs

-- a class and a parent that a row of it lists
pub record Pair : Type 0 where
  pub class : ℕ
  pub parent : ℕ

-- the pairs of one row
unfoldable pub listed : ℕ → List ℕ → List Pair
listed c [] = []
listed c (p ∷ ps) = record { class = c; parent = p } ∷ listed c ps

unfoldable pub has_pair : Pair → List Pair → Bool
has_pair p [] = false
has_pair p (q ∷ ps) = (eqb q.class p.class && eqb q.parent p.parent) || has_pair p ps

-- how many different pairs there are: each counts where it stands last
unfoldable pub different : List Pair → ℕ
different [] = 0
different (p ∷ ps) = cond (has_pair p ps) (different ps) (suc (different ps))

-- ---- a record

-- in this order: outside its slice or too many parents, LENGTH; bad flags, no class or no parent of the table, NUMBER; too many pairs, ROOM
-- `names`: how many names there are; `is-inside`: its parents lie inside their slice; `before`: the pairs of the rows before it
unfoldable pub row_checks : ℕ → Bool → ℕ → ℕ → List ℕ → List Pair → List Check
row_checks names is-inside flags class parents before =
    check (not is-inside) 3
    ∷ check (ltb 254 (length parents)) 3
    ∷ check (not (good_flags flags && (ltb class names && all_below names parents))) 6
    ∷ check (ltb 4096 (different (listed class parents ++ before))) 8
    ∷ []

-- row by row, each after the pairs of those before it; the first refusal ends
unfoldable pub records_refusal : ℕ → List ℕ → List ℕ → List ℕ → List ℕ → List ℕ → List Pair → ℕ
records_refusal names parents [] cs ats ls before = 0
records_refusal names parents (f ∷ fs) [] ats ls before = 0
records_refusal names parents (f ∷ fs) (c ∷ cs) [] ls before = 0
records_refusal names parents (f ∷ fs) (c ∷ cs) (a ∷ ats) [] before = 0
records_refusal names parents (f ∷ fs) (c ∷ cs) (a ∷ ats) (l ∷ ls) before =
    let ps : List ℕ = take l (drop a parents) in
    or_else (first_refusal (row_checks names (inside (length parents) a l) f c ps before)) (records_refusal names parents fs cs ats ls (listed c ps ++ before))

-- ---- THE REFUSAL OF A TABLE: the names', else the records'

unfoldable pub table_refusal : Given → ℕ
table_refusal g =
    or_else (check_rows g.names g.name_at g.name_len [] 0 0)
    (records_refusal (length (names_of g.names g.name_at g.name_len)) g.parents g.rec_flags g.rec_class g.rec_at g.rec_len [])
