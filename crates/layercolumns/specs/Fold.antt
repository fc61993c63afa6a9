-- The columns are a list of rows, and the stack is what the rows leave, one after the other until one is refused.
use Rattle.std.specs.Prelude.{◌≡◌, Bool, cond, ℕ, eqb, length, take, drop}
use Rattle.std.proofs.Math.Path.{refl, sym}
use Rattle.std.proofs.Common.{ap, ap₂, ◌∙◌, arith, eqb-true}
use Rattle.std.proofs.Math.Bool.{true, false}
use mathlib.Core.List.{List, [], ◌∷◌, ◌++◌}
use Rattle.names.specs.Names.{name_of}
use Rattle.rows.specs.declared.Outcome.{Outcome}
use Rattle.rows.specs.Rows.{no_tables, name_row}
use Rattle.columns.specs.Columns.{inside, placed_name, name_rows}
use Rattle.columns.specs.Names.{inside-length}
use Rattle.columns.specs.Fold.{Row, misplaced, named, recorded, names_in, records_in}
use Rattle.layers.specs.Stacks.{Stack, StackRan, ground, with_names, stack_ran}
use Rattle.layercolumns.specs.LayerColumns.{open_flags, opening_row, placed_row, stack_rows, stack_table}

-- what came of the last row, the last name that was taken, and the layers
pub record StackReading : Type 0 where
  pub refusal : ℕ
  pub last : List ℕ
  pub state : Stack

-- what the next function is told of a reading
abbrev pub told : StackReading → StackRan
told r = record { refusal = r.refusal; state = r.state }

-- a row of flags, class and parents: it opens a layer, or is a record
unfoldable pub recorded_ran : ℕ → ℕ → List ℕ → Stack → StackRan
recorded_ran flags class parents s = cond (eqb flags open_flags) (opening_row class (length parents) s) (stack_ran s flags class parents)

-- one row
unfoldable pub stack_step : Row → StackReading → StackReading
stack_step misplaced r = record { refusal = 3; last = r.last; state = r.state }
stack_step (named name) r = record {
  refusal = (name_row r.last name r.state.top.shown.tables).refusal;
  last = cond (eqb (name_row r.last name r.state.top.shown.tables).refusal 0) name r.last;
  state = with_names r.state (name_row r.last name r.state.top.shown.tables).tables;
}
stack_step (recorded flags class parents) r = record {
  refusal = (recorded_ran flags class parents r.state).refusal;
  last = r.last;
  state = (recorded_ran flags class parents r.state).state;
}

-- row by row; the first refusal wins
unfoldable pub stack_run : List Row → StackReading → StackReading
stack_run [] r = r
stack_run (x ∷ xs) r = cond (eqb (stack_step x r).refusal 0) (stack_run xs (stack_step x r)) (stack_step x r)

-- ---- one after the other

-- of two lists of rows, the second is read where the first is taken whole
pub run-append : (xs ys : List Row) (r : StackReading) → r.refusal ≡ 0
    → stack_run (xs ++ ys) r ≡ cond (eqb (stack_run xs r).refusal 0) (stack_run ys (stack_run xs r)) (stack_run xs r)
unfolding stack_run
run-append [] ys r z = rw z
run-append (x ∷ xs) ys r z = go (eqb (stack_step x r).refusal 0) refl (run-append xs ys (stack_step x r))
  where
    go : (b : Bool) → eqb (stack_step x r).refusal 0 ≡ b
        → ((stack_step x r).refusal ≡ 0 → stack_run (xs ++ ys) (stack_step x r) ≡ cond (eqb (stack_run xs (stack_step x r)).refusal 0) (stack_run ys (stack_run xs (stack_step x r))) (stack_run xs (stack_step x r)))
        → cond b (stack_run (xs ++ ys) (stack_step x r)) (stack_step x r)
        ≡ cond (eqb (cond b (stack_run xs (stack_step x r)) (stack_step x r)).refusal 0) (stack_run ys (cond b (stack_run xs (stack_step x r)) (stack_step x r))) (cond b (stack_run xs (stack_step x r)) (stack_step x r))
    go true e ih = ih (eqb-true (stack_step x r).refusal 0 e)
    go false e ih = rw e

-- ---- the names

-- what names come to, over layers
abbrev over : Stack → Outcome → StackRan
over s o = record { refusal = o.refusal; state = with_names s o.tables }

module _ (bytes : List ℕ) (at len : ℕ) (r : StackReading) where
  name : List ℕ
  name = name_of bytes at len

  row : Bool → Row
  row b = cond b (named name) misplaced

  out : Bool → Outcome
  out b = cond b (name_row r.last name r.state.top.shown.tables) (record { refusal = 3; tables = r.state.top.shown.tables })

  step-name : (b : Bool) → told (stack_step (row b) r) ≡ over r.state (out b)
  unfolding stack_step row out
  step-name true = refl
  step-name false = refl

  step-last : (b : Bool) → (out b).refusal ≡ 0 → (stack_step (row b) r).last ≡ name
  unfolding stack_step row out
  step-last true z = rw z
  step-last false z = absurd (omega arith)

run-names : (bytes ats lens : List ℕ) (r : StackReading) → r.refusal ≡ 0
    → told (stack_run (names_in bytes ats lens) r) ≡ over r.state (name_rows bytes ats lens r.last r.state.top.shown.tables)
unfolding stack_run names_in name_rows placed_name name row out
run-names bytes [] lens r z = rw z
run-names bytes (at ∷ ats) [] r z = rw z
run-names bytes (at ∷ ats) (len ∷ lens) r z = go (eqb o.refusal 0) refl (run-names bytes ats lens y)
  where
    b : Bool
    b = inside (length bytes) at len

    o : Outcome
    o = out bytes at len r b

    y : StackReading
    y = stack_step (row bytes at len r b) r

    is : told y ≡ over r.state o
    is = step-name bytes at len r b

    go : (t : Bool) → eqb o.refusal 0 ≡ t
        → (y.refusal ≡ 0 → told (stack_run (names_in bytes ats lens) y) ≡ over y.state (name_rows bytes ats lens y.last y.state.top.shown.tables))
        → told (cond (eqb y.refusal 0) (stack_run (names_in bytes ats lens) y) y)
        ≡ over r.state (cond (eqb o.refusal 0) (name_rows bytes ats lens (name bytes at len r) o.tables) o)
    go true e ih =
        let same = ap (λ (u : StackRan). u.refusal) is in
        let none = eqb-true o.refusal 0 e in
        rw (e, ap (λ (k : ℕ). eqb k 0) same ∙ e)
        (ih (same ∙ none)
        ∙ ap₂ (λ (l : List ℕ) (u : Stack). over u (name_rows bytes ats lens l u.top.shown.tables)) (step-last bytes at len r b none) (ap (λ (u : StackRan). u.state) is))
    go false e ih = rw (e, ap (λ (u : StackRan). eqb u.refusal 0) is ∙ e) is

-- ---- the records

step-row : (parents : List ℕ) (f c a l : ℕ) (r : StackReading) (b : Bool) → inside (length parents) a l ≡ b
    → told (stack_step (cond b (recorded f c (take l (drop a parents))) misplaced) r)
    ≡ cond b (cond (eqb f open_flags) (opening_row c l r.state) (stack_ran r.state f c (take l (drop a parents)))) (record { refusal = 3; state = r.state })
unfolding stack_step recorded_ran
step-row parents f c a l r true h =
    ap (λ (n : ℕ). cond (eqb f open_flags) (opening_row c n r.state) (stack_ran r.state f c (take l (drop a parents)))) (inside-length parents a l h)
step-row parents f c a l r false h = refl

placed-step : (parents : List ℕ) (f c a l : ℕ) (r : StackReading)
    → told (stack_step (cond (inside (length parents) a l) (recorded f c (take l (drop a parents))) misplaced) r) ≡ placed_row parents f c a l r.state
unfolding placed_row
placed-step parents f c a l r = step-row parents f c a l r (inside (length parents) a l) refl

run-records : (parents fs cs ats ls : List ℕ) (r : StackReading) → r.refusal ≡ 0 → told (stack_run (records_in parents fs cs ats ls) r) ≡ stack_rows parents fs cs ats ls r.state
unfolding stack_run records_in stack_rows
run-records parents [] cs ats ls r z = rw z
run-records parents (f ∷ fs) [] ats ls r z = rw z
run-records parents (f ∷ fs) (c ∷ cs) [] ls r z = rw z
run-records parents (f ∷ fs) (c ∷ cs) (a ∷ ats) [] r z = rw z
run-records parents (f ∷ fs) (c ∷ cs) (a ∷ ats) (l ∷ ls) r z = go (eqb o.refusal 0) refl (run-records parents fs cs ats ls y)
  where
    o : StackRan
    o = placed_row parents f c a l r.state

    y : StackReading
    y = stack_step (cond (inside (length parents) a l) (recorded f c (take l (drop a parents))) misplaced) r

    is : told y ≡ o
    is = placed-step parents f c a l r

    go : (t : Bool) → eqb o.refusal 0 ≡ t
        → (y.refusal ≡ 0 → told (stack_run (records_in parents fs cs ats ls) y) ≡ stack_rows parents fs cs ats ls y.state)
        → told (cond (eqb y.refusal 0) (stack_run (records_in parents fs cs ats ls) y) y)
        ≡ cond (eqb o.refusal 0) (stack_rows parents fs cs ats ls o.state) o
    go true e ih =
        let same = ap (λ (u : StackRan). u.refusal) is in
        rw (e, ap (λ (k : ℕ). eqb k 0) same ∙ e) (ih (same ∙ eqb-true o.refusal 0 e) ∙ ap (λ (u : StackRan). stack_rows parents fs cs ats ls u.state) is)
    go false e ih = rw (e, ap (λ (u : StackRan). eqb u.refusal 0) is ∙ e) is

-- ---- THE STACK FROM COLUMNS IS THE FOLD OF THE ROWS: the names in order, then the records and the rows that open layers, until one is refused

abbrev pub stack_start : List ℕ → StackReading
stack_start marks = record { refusal = 0; last = []; state = ground (record { tables = no_tables; keys = []; marks = marks }) }

module _ (bytes ats lens parents fs cs starts sizes marks : List ℕ) where
  pub stack-fold : stack_table (name_rows bytes ats lens [] no_tables) parents fs cs starts sizes marks
      ≡ told (stack_run (names_in bytes ats lens ++ records_in parents fs cs starts sizes) (stack_start marks))
  unfolding stack_table
  stack-fold = sym (ap told (run-append (names_in bytes ats lens) records (stack_start marks) refl) ∙ go (eqb o.refusal 0) refl)
    where
      records : List Row
      records = records_in parents fs cs starts sizes

      n : StackReading
      n = stack_run (names_in bytes ats lens) (stack_start marks)

      o : Outcome
      o = name_rows bytes ats lens [] no_tables

      is : told n ≡ over (stack_start marks).state o
      is = run-names bytes ats lens (stack_start marks) refl

      go : (t : Bool) → eqb o.refusal 0 ≡ t → told (cond (eqb n.refusal 0) (stack_run records n) n)
          ≡ cond (eqb o.refusal 0) (stack_rows parents fs cs starts sizes (over (stack_start marks).state o).state) (over (stack_start marks).state o)
      go true e =
          let same = ap (λ (u : StackRan). u.refusal) is in
          rw (e, ap (λ (k : ℕ). eqb k 0) same ∙ e) (run-records parents fs cs starts sizes n (same ∙ eqb-true o.refusal 0 e) ∙ ap (λ (u : StackRan). stack_rows parents fs cs starts sizes u.state) is)
      go false e = rw (e, ap (λ (u : StackRan). eqb u.refusal 0) is ∙ e) is
