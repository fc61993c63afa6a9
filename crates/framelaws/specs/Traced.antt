-- EVERY STATE THAT LINES LEAD TO IS THAT OF THE ROWS THAT WERE ACCEPTED, as they stand: the names come ascending and well-formed, the table is
-- one that the columns' checks take, its world is that of the rows that its layers show, and a solve is the solve of these rows.
use Rattle.std.specs.Prelude.{◌≡◌, Bool, true, false, ℕ, ◌≤◌, eqb, length}
use Rattle.std.proofs.Math.Path.{refl, sym, ap}
use Rattle.std.proofs.Common.{ap₂, ◌∙◌, subst, arith, eq-eqb, eqb-true}
use Rattle.std.proofs.Math.Bool.{cond}
use Rattle.std.proofs.lemmas.Bool.{false≢true}
use mathlib.Core.List.{List, [], ◌∷◌, ◌++◌}
use Rattle.std.proofs.Math.Option.{Option}
use Rattle.checks.specs.Checks as checks
use Rattle.names.specs.Table.{Checked}
use Rattle.rows.specs.Rows.{no_tables, name_row, good_flags}
use Rattle.rows.specs.Laws.{record-good}
use Rattle.columns.specs.Columns.{name_rows}
use Rattle.columns.specs.Fold.{Row, named, recorded}
use Rattle.columns.specs.Names.{names-checked}
use Rattle.columns.specs.Given.{Given, no_marks, even}
use Rattle.columns.specs.GivenLaws.{even-is}
use Rattle.layers.specs.Stacks.{Stack, StackRan, ground, with_names, top_keys, stack_refusal, stack_row, open_row, open_ran}
use Rattle.layers.specs.StackLaws.{refusal-top}
use Rattle.layercolumns.specs.LayerColumns.{open_flags, opening_row, stack_rows, stack_table}
use Rattle.layercolumns.specs.Fold.{StackReading, told, recorded_ran, stack_step, stack_run, run-append, stack_start}
use Rattle.solving.specs.Solving.{Problem, Solution, Unsolved, Solved, solve}
use Rattle.solving.specs.Solve.{SameRows}
use Rattle.solving.proofs.Solve.{solve-same}
use Rattle.tableview.specs.Inner.{state_view, state_world}
use Rattle.tableview.specs.TableRows.{Record, Rows, rows_view, rows_world}
use Rattle.tableview.specs.Canonical.{columns_of, named_rows, recorded_rows, table_rows}
use Rattle.tableview.proofs.Canonical.{columns-even}
use Rattle.stackview.specs.LayerRows.{shown_table}
use Rattle.stackview.specs.LayerViews.{none_opens}
use Rattle.stackview.proofs.LayerViews.{one-layer}
use Rattle.stackview.specs.Agrees.{stack_in}
use Rattle.stackview.proofs.Agrees.{stack-view, stack-world}
use Rattle.stackview.proofs.Canonical.{stack-rows, shown-back}
use Rattle.problems.specs.Problems.{ProblemRow, counted, variable, bounded, flow, upper_flow, reading, writing, no_problem, with_row, row_refusal, problem_row, problem}
use Rattle.problems.specs.Plain.{list_rows, with_rows}
use Rattle.problems.proofs.Plain.{same-rows}
use Rattle.hexline.specs.Hex.{hex_bytes}
use Rattle.frames.specs.Frames.{Store, empty_store, shown, kind_of, body_of, bad_kind, rank_of, Question, Message, naming, recording, opening, row, solving, asking, Relating, Supertyping, Casting, message_of, message_refusal, frame_checks, Refused, stepped, with_message, solved_step, accepted, frame_bytes, frame}
use Rattle.problems.specs.Own.{own_columns}
use Rattle.problems.proofs.Own.{own-taken, own-problem}
use Rattle.framelaws.specs.Reached.{passed, order-says, after, reached-sound, by-if, last-kind}
use Rattle.framelaws.specs.Messages.{row_kind, message_kind, row-records}

-- ---- the rows that were accepted

pub record Sent : Type 0 where
  pub table : Rows
  pub rows : List ProblemRow

unfoldable pub nothing_sent : Sent
nothing_sent = record { table = record { names = []; records = [] }; rows = [] }

-- the row that opens a layer
abbrev pub opening_record : Record
opening_record = record { flags = open_flags; class = 0; parents = [] }

unfoldable pub add_message : Message → Sent → Sent
add_message (naming n) t = record { table = record { names = t.table.names ++ (n ∷ []); records = t.table.records }; rows = t.rows }
add_message (recording f c ps) t =
    record { table = record { names = t.table.names; records = t.table.records ++ (record { flags = f; class = c; parents = ps } ∷ []) }; rows = t.rows }
add_message opening t = record { table = record { names = t.table.names; records = t.table.records ++ (opening_record ∷ []) }; rows = t.rows }
add_message (row r) t = record { table = t.table; rows = t.rows ++ (r ∷ []) }
add_message solving t = t
add_message (asking q a b) t = t

abbrev pub is_taken : List ℕ → Store → Bool
is_taken line s = eqb (checks.first_refusal (frame_checks (hex_bytes line) s)) 0

abbrev pub message_in : List ℕ → Message
message_in line = message_of (kind_of (hex_bytes line)) (body_of (hex_bytes line))

-- of lines, after others
unfoldable pub sent_after : List (List ℕ) → Store → Sent → Sent
sent_after [] s t = t
sent_after (l ∷ ls) s t = sent_after ls (frame l s).store (cond (is_taken l s) (add_message (message_in l) t) t)

unfoldable pub sent : List (List ℕ) → Sent
sent ls = sent_after ls empty_store nothing_sent

-- ---- what the state is of them

abbrev reading_of : Store → StackReading
reading_of s = record { refusal = 0; last = s.last; state = s.classes }

pub record Traced (t : Sent) (s : Store) : Type 0 where
  pub run-is : stack_run (table_rows t.table) (stack_start no_marks) ≡ record { refusal = 0; last = s.last; state = s.classes }
  pub early : s.rank ≤ 1 → t.table.records ≡ []
  pub rows-are : s.problem ≡ with_rows t.rows no_problem

traced-empty : Traced nothing_sent empty_store
unfolding nothing_sent empty_store stack_run named_rows recorded_rows with_rows
traced-empty = record { run-is = refl; early = λ h. refl; rows-are = refl }

-- ---- a row at the end

module _ {A : Type 0} where
  append-nil : (l : List A) → l ++ [] ≡ l
  append-nil [] = refl
  append-nil (x ∷ l) = ap (λ (m : List A). x ∷ m) (append-nil l)

  append-assoc : (a b c : List A) → (a ++ b) ++ c ≡ a ++ (b ++ c)
  append-assoc [] b c = refl
  append-assoc (x ∷ a) b c = ap (λ (l : List A). x ∷ l) (append-assoc a b c)

named-back : (ns : List (List ℕ)) (n : List ℕ) → named_rows (ns ++ (n ∷ [])) ≡ named_rows ns ++ (named n ∷ [])
unfolding named_rows
named-back [] n = refl
named-back (m ∷ ns) n = ap (λ (l : List Row). named m ∷ l) (named-back ns n)

recorded-back : (rs : List Record) (r : Record) → recorded_rows (rs ++ (r ∷ [])) ≡ recorded_rows rs ++ (recorded r.flags r.class r.parents ∷ [])
unfolding recorded_rows
recorded-back [] r = refl
recorded-back (q ∷ rs) r = ap (λ (l : List Row). recorded q.flags q.class q.parents ∷ l) (recorded-back rs r)

with-back : (rs : List ProblemRow) (r : ProblemRow) (p : Problem) → with_rows (rs ++ (r ∷ [])) p ≡ with_row r (with_rows rs p)
unfolding with_rows
with-back [] r p = refl
with-back (q ∷ rs) r p = with-back rs r (with_row q p)

run-back : (xs : List Row) (x : Row) (r : StackReading) → stack_run xs (stack_start no_marks) ≡ r → r.refusal ≡ 0 → stack_run (xs ++ (x ∷ [])) (stack_start no_marks) ≡ stack_step x r
unfolding stack_run
run-back xs x r e z =
    run-append xs (x ∷ []) (stack_start no_marks) refl
    ∙ ap (λ (u : StackReading). cond (eqb u.refusal 0) (stack_run (x ∷ []) u) u) e
    ∙ ap (λ (b : Bool). cond b (stack_run (x ∷ []) r) r) (eq-eqb r.refusal 0 z)
    ∙ go (eqb (stack_step x r).refusal 0)
  where
    go : (b : Bool) → cond b (stack_step x r) (stack_step x r) ≡ stack_step x r
    go true = refl
    go false = refl

-- a record that is taken opens no layer: its flags are a record's
taken-records : (s : Stack) (f c : ℕ) (ps : List ℕ) → stack_refusal s f c ps ≡ 0 → eqb f open_flags ≡ false
unfolding good_flags
taken-records s f c ps z = go (eqb f open_flags) refl
  where
    go : (b : Bool) → eqb f open_flags ≡ b → b ≡ false
    go true e =
        let good = (record-good s.top.shown.tables.names (top_keys s) f c ps (sym (refusal-top s f c ps) ∙ z)).flags-good in
        absurd (false≢true (ap good_flags (sym (eqb-true f open_flags e)) ∙ good))
    go false e = refl

-- and a row with the other flags opens one
opening-opens : (s : Stack) → recorded_ran open_flags 0 [] s ≡ open_ran s
unfolding recorded_ran opening_row
opening-opens s = refl

-- ---- one message that is taken

module _ (t : Sent) (s : Store) (h : Traced t s) where
  traced-name : (n : List ℕ) → message_refusal (naming n) s ≡ 0 → s.rank ≤ 1 → Traced (add_message (naming n) t) (with_message 1 (naming n) s)
  unfolding add_message with_message message_refusal stack_step recorded_rows
  traced-name n z r = record {
    run-is =
        ap (λ (xs : List Row). stack_run xs (stack_start no_marks)) rows
        ∙ run-back (table_rows t.table) (named n) (reading_of s) h.run-is refl
        ∙ (λ i. record {
          refusal = z i;
          last = cond (eqb (z i) 0) n s.last;
          state = with_names s.classes (name_row s.last n (shown s).tables).tables;
        });
    early = λ k. h.early r;
    rows-are = h.rows-are;
  }
    where
      ns : List (List ℕ)
      ns = t.table.names

      none-yet : recorded_rows t.table.records ≡ []
      none-yet = ap recorded_rows (h.early r)

      rows : named_rows (ns ++ (n ∷ [])) ++ recorded_rows t.table.records ≡ (named_rows ns ++ recorded_rows t.table.records) ++ (named n ∷ [])
      rows =
          ap₂ (λ (a b : List Row). a ++ b) (named-back ns n) none-yet ∙ append-nil (named_rows ns ++ (named n ∷ []))
          ∙ sym (ap (λ (b : List Row). (named_rows ns ++ b) ++ (named n ∷ [])) none-yet ∙ ap (λ (a : List Row). a ++ (named n ∷ [])) (append-nil (named_rows ns)))

  -- a row of flags, class and parents at the end, which comes to a state
  run-recorded : (f c : ℕ) (ps : List ℕ) (next : Stack) → recorded_ran f c ps s.classes ≡ record { refusal = 0; state = next }
      → stack_run (named_rows t.table.names ++ recorded_rows (t.table.records ++ (record { flags = f; class = c; parents = ps } ∷ []))) (stack_start no_marks)
      ≡ record { refusal = 0; last = s.last; state = next }
  unfolding stack_step
  run-recorded f c ps next e =
      ap (λ (xs : List Row). stack_run xs (stack_start no_marks)) rows
      ∙ run-back (table_rows t.table) (recorded f c ps) (reading_of s) h.run-is refl
      ∙ ap (λ (u : StackRan). record { refusal = u.refusal; last = s.last; state = u.state }) e
    where
      rows : named_rows t.table.names ++ recorded_rows (t.table.records ++ (record { flags = f; class = c; parents = ps } ∷ []))
          ≡ (named_rows t.table.names ++ recorded_rows t.table.records) ++ (recorded f c ps ∷ [])
      rows =
          ap (λ (b : List Row). named_rows t.table.names ++ b) (recorded-back t.table.records (record { flags = f; class = c; parents = ps }))
          ∙ sym (append-assoc (named_rows t.table.names) (recorded_rows t.table.records) (recorded f c ps ∷ []))

  traced-record : (f c : ℕ) (ps : List ℕ) → message_refusal (recording f c ps) s ≡ 0 → Traced (add_message (recording f c ps) t) (with_message 2 (recording f c ps) s)
  unfolding add_message with_message message_refusal
  traced-record f c ps z = record {
    run-is =
        run-recorded f c ps (stack_row s.classes f c ps)
        (row-records f c ps s.classes (taken-records s.classes f c ps z) ∙ (λ i. record { refusal = z i; state = stack_row s.classes f c ps }));
    early = λ k. absurd (omega arith);
    rows-are = h.rows-are;
  }

  traced-open : message_refusal opening s ≡ 0 → Traced (add_message opening t) (with_message 2 opening s)
  unfolding add_message with_message message_refusal
  traced-open z = record {
    run-is = run-recorded open_flags 0 [] (open_row s.classes) (opening-opens s.classes ∙ (λ i. record { refusal = z i; state = open_row s.classes }));
    early = λ k. absurd (omega arith);
    rows-are = h.rows-are;
  }

  traced-row : (rank : ℕ) (r : ProblemRow) → message_refusal (row r) s ≡ 0 → 3 ≤ rank → Traced (add_message (row r) t) (with_message rank (row r) s)
  unfolding add_message with_message message_refusal problem_row
  traced-row rank r z k = record {
    run-is = h.run-is;
    early = λ l. absurd (omega arith);
    rows-are =
        ap (λ (b : Bool). cond b (with_row r s.problem) s.problem) (eq-eqb (row_refusal (shown s).tables.names r s.problem) 0 z)
        ∙ ap (with_row r) h.rows-are ∙ sym (with-back t.rows r no_problem);
  }

  traced-last : Traced t (record { last = s.last; classes = s.classes; problem = s.problem; rank = 10 })
  traced-last = record { run-is = h.run-is; early = λ l. absurd (omega arith); rows-are = h.rows-are }

  traced-solved : (o : Solution) → Traced t (solved_step 10 s o).store
  unfolding with_message
  traced-solved (Unsolved k) = h
  traced-solved (Solved u n as') = traced-last

  same-solved : Traced (add_message solving t) (accepted 10 solving s).store
  unfolding add_message accepted
  same-solved = traced-solved (solve (state_world (shown s)) s.problem)

  same-asked : (q : Question) (a b : ℕ) → Traced (add_message (asking q a b) t) (accepted 10 (asking q a b) s).store
  unfolding add_message accepted with_message
  same-asked q a b = traced-last

  traced-message : (m : Message) → message_refusal m s ≡ 0 → s.rank ≤ rank_of (message_kind m) → Traced (add_message m t) (accepted (rank_of (message_kind m)) m s).store
  unfolding accepted message_kind row_kind
  traced-message (naming n) z o = traced-name n z o
  traced-message (recording f c ps) z o = traced-record f c ps z
  traced-message opening z o = traced-open z
  traced-message (row (counted n)) z o = traced-row 3 (counted n) z (omega arith)
  traced-message (row (variable c)) z o = traced-row 4 (variable c) z (omega arith)
  traced-message (row (bounded c k w)) z o = traced-row 5 (bounded c k w) z (omega arith)
  traced-message (row (flow a b)) z o = traced-row 6 (flow a b) z (omega arith)
  traced-message (row (upper_flow a b)) z o = traced-row 7 (upper_flow a b) z (omega arith)
  traced-message (row (reading a b)) z o = traced-row 8 (reading a b) z (omega arith)
  traced-message (row (writing a b)) z o = traced-row 9 (writing a b) z (omega arith)
  traced-message solving z o = same-solved
  traced-message (asking Relating a b) z o = same-asked Relating a b
  traced-message (asking Supertyping a b) z o = same-asked Supertyping a b
  traced-message (asking Casting a b) z o = same-asked Casting a b

-- a kind from 01 to 0e is that of its message
kind-back : (k : ℕ) (body : List ℕ) → bad_kind k ≡ false → message_kind (message_of k body) ≡ k
unfolding message_of message_kind row_kind
kind-back k body h =
    by-if Is (eqb k 1) _ _ (λ e. sym (eqb-true k 1 e))
    (λ n1. by-if Is (eqb k 2) _ _ (λ e. sym (eqb-true k 2 e))
    (λ n2. by-if Is (eqb k 3) _ _ (λ e. sym (eqb-true k 3 e))
    (λ n3. by-if Is (eqb k 4) _ _ (λ e. sym (eqb-true k 4 e))
    (λ n4. by-if Is (eqb k 5) _ _ (λ e. sym (eqb-true k 5 e))
    (λ n5. by-if Is (eqb k 6) _ _ (λ e. sym (eqb-true k 6 e))
    (λ n6. by-if Is (eqb k 7) _ _ (λ e. sym (eqb-true k 7 e))
    (λ n7. by-if Is (eqb k 8) _ _ (λ e. sym (eqb-true k 8 e))
    (λ n8. by-if Is (eqb k 9) _ _ (λ e. sym (eqb-true k 9 e))
    (λ n9. by-if Is (eqb k 10) _ _ (λ e. sym (eqb-true k 10 e))
    (λ n10. by-if Is (eqb k 11) _ _ (λ e. sym (eqb-true k 11 e))
    (λ n11. by-if Is (eqb k 12) _ _ (λ e. sym (eqb-true k 12 e))
    (λ n12. by-if Is (eqb k 13) _ _ (λ e. sym (eqb-true k 13 e))
    (λ n13. sym (last-kind k h n1 n2 n3 n4 n5 n6 n7 n8 n9 n10 n11 n12 n13))))))))))))))
  where
    Is : Message → Type 0
    Is m = message_kind m ≡ k

-- ---- one frame

traced-frame : (l : List ℕ) (t : Sent) (s : Store) → Traced t s → Traced (cond (is_taken l s) (add_message (message_in l) t) t) (frame l s).store
unfolding frame frame_bytes
traced-frame l t s h = go (eqb (checks.first_refusal (frame_checks f s)) 0) refl
  where
    f : Option (List ℕ)
    f = hex_bytes l

    m : Message
    m = message_of (kind_of f) (body_of f)

    go : (b : Bool) → eqb (checks.first_refusal (frame_checks f s)) 0 ≡ b
        → Traced (cond b (add_message m t) t) (cond b (accepted (rank_of (kind_of f)) m s) (stepped (Refused (checks.first_refusal (frame_checks f s))) s)).store
    go true e =
        let p = passed f s (eqb-true (checks.first_refusal (frame_checks f s)) 0 e) in
        let k = kind-back (kind_of f) (body_of f) p.kind in
        subst (λ (j : ℕ). Traced (add_message m t) (accepted (rank_of j) m s).store) k
        (traced-message t s h m p.taken (subst (λ (j : ℕ). s.rank ≤ rank_of j) (sym k) (order-says (kind_of f) s.rank p.order).0))
    go false e = h

traced-after : (ls : List (List ℕ)) (t : Sent) (s : Store) → Traced t s → Traced (sent_after ls s t) (after ls s)
unfolding sent_after after
traced-after [] t s h = h
traced-after (l ∷ ls) t s h = traced-after ls (cond (is_taken l s) (add_message (message_in l) t) t) (frame l s).store (traced-frame l t s h)

-- THE STATE THAT LINES LEAD TO IS THE FOLD OF THE ROWS THAT WERE ACCEPTED, none of them refused
pub traced : (ls : List (List ℕ)) → Traced (sent ls) (after ls empty_store)
unfolding sent
traced ls = traced-after ls nothing_sent empty_store traced-empty

-- ---- in the words of the rows

same-self : (p : Problem) → SameRows p p
same-self p = record { components = refl; variables = refl; bounds = (λ z m. m, λ z m. m); flows = (λ z m. m, λ z m. m); upper_flows = (λ z m. m, λ z m. m); reads = (λ z m. m, λ z m. m); writes = (λ z m. m, λ z m. m) }

-- the names of a table that is taken
table-names : (g : Given) → even g ≡ true → (stack_in g).refusal ≡ 0 → Checked g.names g.name_at g.name_len
unfolding stack_in stack_table even
table-names g e z = names-checked g.names g.name_at g.name_len (even-is (length g.name_at) (length g.name_len) (length g.rec_flags) (length g.rec_class) (length g.rec_at) (length g.rec_len) e).0 (go (eqb o 0) refl z)
  where
    o : ℕ
    o = (name_rows g.names g.name_at g.name_len [] no_tables).refusal

    first : Stack
    first = ground (record { tables = (name_rows g.names g.name_at g.name_len [] no_tables).tables; keys = []; marks = no_marks })

    go : (b : Bool) → eqb o 0 ≡ b → (cond {A = StackRan} b (stack_rows g.parents g.rec_flags g.rec_class g.rec_at g.rec_len first) (record { refusal = o; state = first })).refusal ≡ 0 → o ≡ 0
    go true q r = eqb-true o 0 q
    go false q r = r

module _ (ls : List (List ℕ)) where
  ran-is : stack_in (columns_of (sent ls).table) ≡ record { refusal = 0; state = (after ls empty_store).classes }
  ran-is = stack-rows (sent ls).table ∙ ap told (traced ls).run-is

  -- THE ROWS AS COLUMNS ARE TAKEN, and their layers are the state's
  pub reached-taken : (stack_in (columns_of (sent ls).table)).refusal ≡ 0
  reached-taken = ap (λ (u : StackRan). u.refusal) ran-is

  pub reached-table : (stack_in (columns_of (sent ls).table)).state ≡ (after ls empty_store).classes
  reached-table = ap (λ (u : StackRan). u.state) ran-is

  -- THE WORLD IS THAT OF THE ROWS THAT THE LAYERS SHOW: every answer of 0a to 0d is
  pub reached-world : state_world (shown (after ls empty_store)) ≡ rows_world (shown_table (sent ls).table)
  reached-world =
      ap (λ (c : Stack). state_world c.top.shown) (sym reached-table) ∙ stack-world (columns_of (sent ls).table) (columns-even (sent ls).table) reached-taken
      ∙ ap rows_world (shown-back (sent ls).table)

  pub reached-view : state_view (shown (after ls empty_store)) ≡ rows_view (shown_table (sent ls).table)
  reached-view =
      ap (λ (c : Stack). state_view c.top.shown) (sym reached-table) ∙ stack-view (columns_of (sent ls).table) (columns-even (sent ls).table) reached-taken
      ∙ ap rows_view (shown-back (sent ls).table)

  -- ONE LAYER IS AS BEFORE: where no frame opened another, the rows themselves
  pub reached-plain : none_opens (sent ls).table.records
      → (state_world (shown (after ls empty_store)) ≡ rows_world (sent ls).table) × (state_view (shown (after ls empty_store)) ≡ rows_view (sent ls).table)
  reached-plain n =
      let same : shown_table (sent ls).table ≡ (sent ls).table = ap (λ (rs : List Record). record { names = (sent ls).table.names; records = rs }) (one-layer (sent ls).table.records n) in
      (reached-world ∙ ap rows_world same, reached-view ∙ ap rows_view same)

  -- A SOLVE IS THE SOLVE OF THE ROWS AS THEY CAME
  pub reached-solve : solve (state_world (shown (after ls empty_store))) (after ls empty_store).problem ≡ solve (rows_world (shown_table (sent ls).table)) (list_rows (sent ls).rows no_problem)
  reached-solve =
      ap₂ solve reached-world (traced ls).rows-are
      ∙ solve-same (with_rows (sent ls).rows no_problem) (list_rows (sent ls).rows no_problem) (same-rows (sent ls).rows no_problem no_problem (same-self no_problem)) (rows_world (shown_table (sent ls).table))

  -- THE NAMES ARE ASCENDING, WELL-FORMED, 1 to 255 bytes, at most 1,024 and 24,576 bytes
  pub reached-names : Checked (columns_of (sent ls).table).names (columns_of (sent ls).table).name_at (columns_of (sent ls).table).name_len
  reached-names = table-names (columns_of (sent ls).table) (columns-even (sent ls).table) reached-taken

  -- THE PROBLEM AS COLUMNS IS TAKEN TOO, and is the state's
  pub reached-problem : ((problem (shown (after ls empty_store)).tables.names (own_columns (after ls empty_store).problem)).refusal ≡ 0)
      × ((problem (shown (after ls empty_store)).tables.names (own_columns (after ls empty_store).problem)).problem ≡ (after ls empty_store).problem)
  reached-problem =
      let h = reached-sound ls in (
        own-taken (shown (after ls empty_store)).tables.names h.good.few (after ls empty_store).problem h.held,
        own-problem (shown (after ls empty_store)).tables.names h.good.few (after ls empty_store).problem h.held,
      )
