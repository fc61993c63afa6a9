-- The rows that columns hold, taken one after the other until one is refused.
use Rattle.std.specs.Prelude.{◌≡◌, Bool, cond, ◌&&◌, List, [], ◌∷◌, ℕ, ◌-◌, eqb, leb, length, take, drop}
use Rattle.names.specs.Names.{name_of}
use Rattle.tables.specs.declared.Tables.{Tables}
use Rattle.rows.specs.declared.Outcome.{Outcome}
use Rattle.tables.specs.Table.{pairs_room, marks_room}
use Rattle.rows.specs.Rows.{no_tables, name_row, State, Ran, record_ran, Fills}
use Rattle.columns.specs.declared.TableColumns.{TableColumns}
use Rattle.lending.specs.Lending.{MutSlice, came_mut, became}

-- len entries from at on lie inside a slice of that size; the difference does not overflow where the sum would
unfoldable pub inside : ℕ → ℕ → ℕ → Bool
inside size at len = leb at size && leb len (size - at)

-- ---- names

-- a row whose place is not inside is refused 3
unfoldable pub placed_name : List ℕ → List ℕ → ℕ → ℕ → Tables → Outcome
placed_name bytes last at len t = cond (inside (length bytes) at len) (name_row last (name_of bytes at len) t) (record { refusal = 3; tables = t })

-- row by row, each after the name before it; the first refusal ends
unfoldable pub name_rows : List ℕ → List ℕ → List ℕ → List ℕ → Tables → Outcome
name_rows bytes [] lens last t = record { refusal = 0; tables = t }
name_rows bytes (at ∷ ats) [] last t = record { refusal = 0; tables = t }
name_rows bytes (at ∷ ats) (len ∷ lens) last t =
    cond (eqb (placed_name bytes last at len t).refusal 0) (name_rows bytes ats lens (name_of bytes at len) (placed_name bytes last at len t).tables)
    (placed_name bytes last at len t)

-- ---- records

-- a record whose place is not inside is refused 3
unfoldable pub placed_record : List ℕ → ℕ → ℕ → ℕ → ℕ → State → Ran
placed_record parents flags class at len s =
    cond (inside (length parents) at len) (record_ran s flags class (take len (drop at parents))) (record { refusal = 3; state = s })

-- row by row; the first refusal ends
unfoldable pub record_rows : List ℕ → List ℕ → List ℕ → List ℕ → List ℕ → State → Ran
record_rows parents [] cs ats ls s = record { refusal = 0; state = s }
record_rows parents (f ∷ fs) [] ats ls s = record { refusal = 0; state = s }
record_rows parents (f ∷ fs) (c ∷ cs) [] ls s = record { refusal = 0; state = s }
record_rows parents (f ∷ fs) (c ∷ cs) (a ∷ ats) [] s = record { refusal = 0; state = s }
record_rows parents (f ∷ fs) (c ∷ cs) (a ∷ ats) (l ∷ ls) s =
    cond (eqb (placed_record parents f c a l s).refusal 0) (record_rows parents fs cs ats ls (placed_record parents f c a l s).state)
    (placed_record parents f c a l s)

-- the columns of the records are of equal length
abbrev pub EvenRecords : TableColumns → Type 0
EvenRecords c = (length c.rec_flags.now ≡ length c.rec_class.now) × (length c.rec_flags.now ≡ length c.rec_at.now) × (length c.rec_flags.now ≡ length c.rec_len.now)

-- the records of columns, and those from row i on
abbrev pub records_of : TableColumns → State → Ran
records_of c = record_rows c.parents.now c.rec_flags.now c.rec_class.now c.rec_at.now c.rec_len.now

abbrev pub records_from : TableColumns → ℕ → State → Ran
records_from c i = record_rows c.parents.now (drop i c.rec_flags.now) (drop i c.rec_class.now) (drop i c.rec_at.now) (drop i c.rec_len.now)

-- ---- the table

-- the names' refusal; else the records, from no pair and the marks as they came
unfoldable pub table_of : Outcome → List ℕ → List ℕ → List ℕ → List ℕ → List ℕ → List ℕ → Ran
table_of named parents fs cs ats ls marks =
    let s : State = record { tables = named.tables; keys = []; marks = marks } in
    cond (eqb named.refusal 0) (record_rows parents fs cs ats ls s) (record { refusal = named.refusal; state = s })

-- what the eight columns come to, from marks as they came
abbrev pub built : List ℕ → List ℕ → List ℕ → List ℕ → List ℕ → List ℕ → List ℕ → List ℕ → List ℕ → Ran
built names ats lens fs cs starts sizes parents marks = table_of (name_rows names ats lens [] no_tables) parents fs cs starts sizes marks

-- of columns
abbrev pub built_of : TableColumns → List ℕ → Ran
built_of c marks = built c.names.now c.name_at.now c.name_len.now c.rec_flags.now c.rec_class.now c.rec_at.now c.rec_len.now c.parents.now marks

-- two columns of the names and four of the records, of equal length each
abbrev pub EvenColumns : TableColumns → Type 0
EvenColumns c = (length c.name_at.now ≡ length c.name_len.now) × EvenRecords c

-- the same, and the two slices of a table in full length
abbrev pub Roomy : TableColumns → List ℕ → List ℕ → Type 0
Roomy c pairs marks = EvenColumns c × (length pairs ≡ pairs_room) × (length marks ≡ marks_room)

-- what a function leaves in the slices of a table that it is lent
abbrev pub FillsBy : Ran → (pairs marks : MutSlice) → Outcome → Type 0
FillsBy ran pairs marks = Fills ran (came_mut pairs) (became pairs) (became marks)
