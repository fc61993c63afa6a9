-- The columns are a list of rows, and the table is what the rows leave, one after the other until one is refused.
use Rattle.std.specs.Prelude.{◌≡◌, Bool, cond, ℕ, eqb, length, take, drop}
use Rattle.std.proofs.Math.Path.{refl, sym}
use Rattle.std.proofs.Common.{ap, ap₂, ◌∙◌, arith, eqb-true}
use Rattle.std.proofs.Math.Bool.{true, false}
use mathlib.Core.List.{List, [], ◌∷◌, ◌++◌}
use Rattle.names.specs.Names.{name_of}
use Rattle.rows.specs.declared.Outcome.{Outcome}
use Rattle.rows.specs.Rows.{no_tables, name_row, State, record_refusal, record_row, Ran, record_ran}
use Rattle.columns.specs.Columns.{inside, placed_name, name_rows, placed_record, record_rows, table_of}

-- a row: not inside its slice, or a name, or flags, class and parents
pub data Row : Type 0 where
  misplaced : Row
  named : List ℕ → Row
  recorded : ℕ → ℕ → List ℕ → Row

-- what came of the last row, the last name that was taken, and the state
pub record Reading : Type 0 where
  pub refusal : ℕ
  pub last : List ℕ
  pub state : State

-- one row
unfoldable pub step : Row → Reading → Reading
step misplaced r = record { refusal = 3; last = r.last; state = r.state }
step (named name) r = record {
  refusal = (name_row r.last name r.state.tables).refusal;
  last = cond (eqb (name_row r.last name r.state.tables).refusal 0) name r.last;
  state = record { tables = (name_row r.last name r.state.tables).tables; keys = r.state.keys; marks = r.state.marks };
}
step (recorded flags class parents) r = record {
  refusal = record_refusal r.state.tables.names r.state.keys flags class parents;
  last = r.last;
  state = record_row r.state flags class parents;
}

-- row by row; the first refusal wins
unfoldable pub run : List Row → Reading → Reading
run [] r = r
run (x ∷ xs) r = cond (eqb (step x r).refusal 0) (run xs (step x r)) (step x r)

-- the rows that columns hold
unfoldable pub names_in : List ℕ → List ℕ → List ℕ → List Row
names_in bytes [] lens = []
names_in bytes (at ∷ ats) [] = []
names_in bytes (at ∷ ats) (len ∷ lens) = cond (inside (length bytes) at len) (named (name_of bytes at len)) misplaced ∷ names_in bytes ats lens

unfoldable pub records_in : List ℕ → List ℕ → List ℕ → List ℕ → List ℕ → List Row
records_in parents [] cs ats ls = []
records_in parents (f ∷ fs) [] ats ls = []
records_in parents (f ∷ fs) (c ∷ cs) [] ls = []
records_in parents (f ∷ fs) (c ∷ cs) (a ∷ ats) [] = []
records_in parents (f ∷ fs) (c ∷ cs) (a ∷ ats) (l ∷ ls) = cond (inside (length parents) a l) (recorded f c (take l (drop a parents))) misplaced ∷ records_in parents fs cs ats ls

-- what the next function is told of a reading
abbrev pub ran : Reading → Ran
ran r = record { refusal = r.refusal; state = r.state }

-- ---- one after the other

-- of two lists of rows, the second is read where the first is taken whole
pub run-append : (xs ys : List Row) (r : Reading) → r.refusal ≡ 0 → run (xs ++ ys) r ≡ cond (eqb (run xs r).refusal 0) (run ys (run xs r)) (run xs r)
unfolding run
run-append [] ys r z = rw z
run-append (x ∷ xs) ys r z = go (eqb (step x r).refusal 0) refl (run-append xs ys (step x r))
  where
    go : (b : Bool) → eqb (step x r).refusal 0 ≡ b
        → ((step x r).refusal ≡ 0 → run (xs ++ ys) (step x r) ≡ cond (eqb (run xs (step x r)).refusal 0) (run ys (run xs (step x r))) (run xs (step x r)))
        → cond b (run (xs ++ ys) (step x r)) (step x r)
        ≡ cond (eqb (cond b (run xs (step x r)) (step x r)).refusal 0) (run ys (cond b (run xs (step x r)) (step x r))) (cond b (run xs (step x r)) (step x r))
    go true e ih = ih (eqb-true (step x r).refusal 0 e)
    go false e ih = rw e

-- ---- the names

-- what names come to, over a state
abbrev pub over : State → Outcome → Ran
over s o = record { refusal = o.refusal; state = record { tables = o.tables; keys = s.keys; marks = s.marks } }

module _ (bytes : List ℕ) (at len : ℕ) (r : Reading) where
  name : List ℕ
  name = name_of bytes at len

  row : Bool → Row
  row b = cond b (named name) misplaced

  out : Bool → Outcome
  out b = cond b (name_row r.last name r.state.tables) (record { refusal = 3; tables = r.state.tables })

  step-name : (b : Bool) → ran (step (row b) r) ≡ over r.state (out b)
  unfolding step row out
  step-name true = refl
  step-name false = refl

  step-last : (b : Bool) → (out b).refusal ≡ 0 → (step (row b) r).last ≡ name
  unfolding step row out
  step-last true z = rw z
  step-last false z = absurd (omega arith)

run-names : (bytes ats lens : List ℕ) (r : Reading) → r.refusal ≡ 0
    → ran (run (names_in bytes ats lens) r) ≡ over r.state (name_rows bytes ats lens r.last r.state.tables)
unfolding run names_in name_rows placed_name name row out
run-names bytes [] lens r z = rw z
run-names bytes (at ∷ ats) [] r z = rw z
run-names bytes (at ∷ ats) (len ∷ lens) r z = go (eqb o.refusal 0) refl (run-names bytes ats lens y)
  where
    b : Bool
    b = inside (length bytes) at len

    o : Outcome
    o = out bytes at len r b

    y : Reading
    y = step (row bytes at len r b) r

    told : ran y ≡ over r.state o
    told = step-name bytes at len r b

    go : (t : Bool) → eqb o.refusal 0 ≡ t
        → (y.refusal ≡ 0 → ran (run (names_in bytes ats lens) y) ≡ over y.state (name_rows bytes ats lens y.last y.state.tables))
        → ran (cond (eqb y.refusal 0) (run (names_in bytes ats lens) y) y)
        ≡ over r.state (cond (eqb o.refusal 0) (name_rows bytes ats lens (name bytes at len r) o.tables) o)
    go true e ih =
        let same = ap (λ (u : Ran). u.refusal) told in
        let none = eqb-true o.refusal 0 e in
        rw (e, ap (λ (k : ℕ). eqb k 0) same ∙ e)
        (ih (same ∙ none)
        ∙ ap₂ (λ (l : List ℕ) (u : State). over u (name_rows bytes ats lens l u.tables)) (step-last bytes at len r b none) (ap (λ (u : Ran). u.state) told))
    go false e ih = rw (e, ap (λ (u : Ran). eqb u.refusal 0) told ∙ e) told

-- ---- the records

step-record : (parents : List ℕ) (f c a l : ℕ) (r : Reading) (b : Bool)
    → ran (step (cond b (recorded f c (take l (drop a parents))) misplaced) r)
    ≡ cond b (record_ran r.state f c (take l (drop a parents))) (record { refusal = 3; state = r.state })
unfolding step
step-record parents f c a l r true = refl
step-record parents f c a l r false = refl

placed-step : (parents : List ℕ) (f c a l : ℕ) (r : Reading)
    → ran (step (cond (inside (length parents) a l) (recorded f c (take l (drop a parents))) misplaced) r) ≡ placed_record parents f c a l r.state
unfolding placed_record
placed-step parents f c a l r = step-record parents f c a l r (inside (length parents) a l)

run-records : (parents fs cs ats ls : List ℕ) (r : Reading) → r.refusal ≡ 0 → ran (run (records_in parents fs cs ats ls) r) ≡ record_rows parents fs cs ats ls r.state
unfolding run records_in record_rows
run-records parents [] cs ats ls r z = rw z
run-records parents (f ∷ fs) [] ats ls r z = rw z
run-records parents (f ∷ fs) (c ∷ cs) [] ls r z = rw z
run-records parents (f ∷ fs) (c ∷ cs) (a ∷ ats) [] r z = rw z
run-records parents (f ∷ fs) (c ∷ cs) (a ∷ ats) (l ∷ ls) r z = go (eqb o.refusal 0) refl (run-records parents fs cs ats ls y)
  where
    o : Ran
    o = placed_record parents f c a l r.state

    y : Reading
    y = step (cond (inside (length parents) a l) (recorded f c (take l (drop a parents))) misplaced) r

    told : ran y ≡ o
    told = placed-step parents f c a l r

    go : (t : Bool) → eqb o.refusal 0 ≡ t
        → (y.refusal ≡ 0 → ran (run (records_in parents fs cs ats ls) y) ≡ record_rows parents fs cs ats ls y.state)
        → ran (cond (eqb y.refusal 0) (run (records_in parents fs cs ats ls) y) y)
        ≡ cond (eqb o.refusal 0) (record_rows parents fs cs ats ls o.state) o
    go true e ih =
        let same = ap (λ (u : Ran). u.refusal) told in
        rw (e, ap (λ (k : ℕ). eqb k 0) same ∙ e) (ih (same ∙ eqb-true o.refusal 0 e) ∙ ap (λ (u : Ran). record_rows parents fs cs ats ls u.state) told)
    go false e ih = rw (e, ap (λ (u : Ran). eqb u.refusal 0) told ∙ e) told

-- ---- THE TABLE FROM COLUMNS IS THE FOLD OF THE ROWS: the names in order, then the records, until one is refused

abbrev pub start : List ℕ → Reading
start marks = record { refusal = 0; last = []; state = record { tables = no_tables; keys = []; marks = marks } }

module _ (bytes ats lens parents fs cs starts sizes marks : List ℕ) where
  pub table-fold : table_of (name_rows bytes ats lens [] no_tables) parents fs cs starts sizes marks
      ≡ ran (run (names_in bytes ats lens ++ records_in parents fs cs starts sizes) (start marks))
  unfolding table_of
  table-fold = sym (ap ran (run-append (names_in bytes ats lens) records (start marks) refl) ∙ go (eqb o.refusal 0) refl)
    where
      records : List Row
      records = records_in parents fs cs starts sizes

      n : Reading
      n = run (names_in bytes ats lens) (start marks)

      o : Outcome
      o = name_rows bytes ats lens [] no_tables

      told : ran n ≡ over (start marks).state o
      told = run-names bytes ats lens (start marks) refl

      go : (t : Bool) → eqb o.refusal 0 ≡ t → ran (cond (eqb n.refusal 0) (run records n) n)
          ≡ cond (eqb o.refusal 0) (record_rows parents fs cs starts sizes (over (start marks).state o).state) (over (start marks).state o)
      go true e =
          let same = ap (λ (u : Ran). u.refusal) told in
          rw (e, ap (λ (k : ℕ). eqb k 0) same ∙ e) (run-records parents fs cs starts sizes n (same ∙ eqb-true o.refusal 0 e) ∙ ap (λ (u : Ran). record_rows parents fs cs starts sizes u.state) told)
      go false e = rw (e, ap (λ (u : Ran). eqb u.refusal 0) told ∙ e) told
