-- SLICES = FRAMES: the lines of a table's rows and then a question, or of a table's and a problem's rows and then 0a, say at the first refusal, or
-- at the end, what the functions over slices answer.
use Rattle.std.specs.Prelude.{◌≡◌, Bool, true, false, cond, not, ◌&&◌, ◌||◌, List, [], ◌∷◌, ◌++◌, eqb, ltb}
use Rattle.std.proofs.Math.Path.{refl}
use Rattle.std.proofs.Common.{sym, ap, ap₂, ◌∙◌, subst, arith, eq-eqb, ne_eqb, le-ltb, ltb-true, eqb-true}
use Prim.Native.Nat.{ℕ, ◌-◌, ◌^◌, ◌≤◌}
use Rattle.std.proofs.lemmas.Bool.{eqb-false}
use Rattle.checks.specs.Checks as checks
use Rattle.checks.specs.Checks.{check}
use Rattle.view.specs.View.{View}
use Rattle.lattice.specs.Lattice.{World}
use Rattle.rows.specs.Rows.{all_below}
use Rattle.columns.specs.Fold.{Row, misplaced, named, recorded, names_in, records_in}
use Rattle.columns.specs.Given.{Given, even}
use Rattle.layers.specs.Stacks.{Stack}
use Rattle.layercolumns.specs.LayerColumns.{open_flags}
use Rattle.tableview.specs.Inner.{state_view, state_world}
use Rattle.tableview.specs.TableRows.{rows_view, rows_world}
use Rattle.stackview.specs.LayerRows.{shown_in}
use Rattle.stackview.specs.LayerRefusals.{stack_refusal_of}
use Rattle.stackview.specs.Agrees.{stack_in}
use Rattle.stackview.proofs.Agrees.{stack-view, stack-world}
use Rattle.stackview.proofs.Shown.{stack-refused}
use Rattle.questions.specs.Questions.{good_numbers, table_checks, refusal_of}
use Rattle.solving.specs.Solving.{Problem, Solution, Unsolved, Solved, solve}
use Rattle.problems.specs.Problems.{ProblemRow, Columns, problem_in, problem}
use Rattle.frames.specs.Frames.{Store, empty_store, shown, rank_of, bad_order, Question, Message, naming, recording, opening, row, solving, asking, Relating, Supertyping, Casting, ask_checks, message_refusal, Said, Accepted, Answers, Related, Supertyped, Castable, Refused, Stepped, stepped, with_message, solved_step, answer, accepted, frame}
use Rattle.framelaws.specs.Messages.{message_kind, Ended, send_refusal, taking, send_all, messages_for, row_messages, table_messages, all_messages, Placed-in, TableCame, AllCame, all-sent, only-table-sent}
use Rattle.framelaws.specs.Written.{line_of, Fits, frame-sends}

-- ---- what is said first of refusals, else last

abbrev pub unless_refused : Said → Said → Said
unless_refused Accepted rest = rest
unless_refused (Answers answers) rest = rest
unless_refused (Related n) rest = rest
unless_refused (Supertyped c) rest = rest
unless_refused (Castable b) rest = rest
unless_refused (Refused k) rest = Refused k

unfoldable pub last_said : Said → List (List ℕ) → Store → Said
last_said before [] s = before
last_said before (l ∷ ls) s = unless_refused (frame l s).said (last_said (frame l s).said ls (frame l s).store)

unfoldable pub lines_for : List Message → List (List ℕ)
lines_for [] = []
lines_for (m ∷ ms) = line_of m ∷ lines_for ms

abbrev pub AllFit : List Message → Type 0
AllFit [] = Unit {0}
AllFit (m ∷ ms) = Fits m × AllFit ms

-- ---- rows

abbrev IsRow : Message → Type 0
IsRow (naming n) = Unit {0}
IsRow (recording f c ps) = Unit {0}
IsRow opening = Unit {0}
IsRow (row r) = Unit {0}
IsRow solving = ⊥
IsRow (asking q a b) = ⊥

abbrev AllRows : List Message → Type 0
AllRows [] = Unit {0}
AllRows (m ∷ ms) = IsRow m × AllRows ms

row-accepted : (k : ℕ) (m : Message) (s : Store) → IsRow m → accepted k m s ≡ stepped Accepted (with_message k m s)
unfolding accepted
row-accepted k (naming n) s h = refl
row-accepted k (recording f c ps) s h = refl
row-accepted k opening s h = refl
row-accepted k (row r) s h = refl
row-accepted k solving s h = absurd h
row-accepted k (asking q a b) s h = absurd h

-- lines of rows, and then others
rows-said : (ms : List Message) (rest : List (List ℕ)) (s : Store) → AllRows ms → AllFit ms
    → last_said Accepted (lines_for ms ++ rest) s ≡ cond (eqb (send_all ms s).refusal 0) (last_said Accepted rest (send_all ms s).store) (Refused (send_all ms s).refusal)
unfolding last_said lines_for send_all
rows-said [] rest s r f = refl
rows-said (m ∷ ms) rest s r f =
    ap (λ (u : Stepped). unless_refused u.said (last_said u.said (lines_for ms ++ rest) u.store)) (frame-sends m s f.0)
    ∙ go (eqb (send_refusal m s) 0) refl (rows-said ms rest (taking m s) r.1 f.1)
  where
    acc : Stepped
    acc = accepted (rank_of (message_kind m)) m s

    stop : Ended
    stop = record { refusal = send_refusal m s; store = s }

    go : (b : Bool) → eqb (send_refusal m s) 0 ≡ b
        → last_said Accepted (lines_for ms ++ rest) (taking m s) ≡ cond (eqb (send_all ms (taking m s)).refusal 0) (last_said Accepted rest (send_all ms (taking m s)).store) (Refused (send_all ms (taking m s)).refusal)
        → unless_refused (cond b acc (stepped (Refused (send_refusal m s)) s)).said (last_said (cond b acc (stepped (Refused (send_refusal m s)) s)).said (lines_for ms ++ rest) (cond b acc (stepped (Refused (send_refusal m s)) s)).store)
        ≡ cond (eqb (cond b (send_all ms (taking m s)) stop).refusal 0) (last_said Accepted rest (cond b (send_all ms (taking m s)) stop).store) (Refused (cond b (send_all ms (taking m s)) stop).refusal)
    go true e ih =
        ap (λ (u : Stepped). unless_refused u.said (last_said u.said (lines_for ms ++ rest) u.store)) (row-accepted (rank_of (message_kind m)) m s r.0) ∙ ih
    go false e ih = rw e

-- a line at the end
one-said : (l : List ℕ) (s : Store) → last_said Accepted (l ∷ []) s ≡ (frame l s).said
unfolding last_said
one-said l s = go (frame l s).said
  where
    go : (x : Said) → unless_refused x x ≡ x
    go Accepted = refl
    go (Answers answers) = refl
    go (Related n) = refl
    go (Supertyped c) = refl
    go (Castable b) = refl
    go (Refused k) = refl

rows-append : (xs ys : List Message) → AllRows xs → AllRows ys → AllRows (xs ++ ys)
rows-append [] ys h k = k
rows-append (x ∷ xs) ys h k = (h.0, rows-append xs ys h.1 k)

for-rows : (xs : List Row) → AllRows (messages_for xs)
unfolding messages_for
for-rows [] = tt
for-rows (misplaced ∷ xs) = (tt, for-rows xs)
for-rows (named n ∷ xs) = (tt, for-rows xs)
for-rows (recorded f c ps ∷ xs) = (go (eqb f open_flags), for-rows xs)
  where
    go : (b : Bool) → IsRow (cond b opening (recording f c ps))
    go true = tt
    go false = tt

problem-rows : (rs : List ProblemRow) → AllRows (row_messages rs)
unfolding row_messages
problem-rows [] = tt
problem-rows (r ∷ rs) = (tt, problem-rows rs)

table-rows : (g : Given) → AllRows (table_messages g)
unfolding table_messages
table-rows g =
    let xs = names_in g.names g.name_at g.name_len in
    let ys = records_in g.parents g.rec_flags g.rec_class g.rec_at g.rec_len in
    rows-append (messages_for xs) (messages_for ys) (for-rows xs) (for-rows ys)

all-rows : (g : Given) (c : Columns) → AllRows (all_messages g c)
unfolding all_messages
all-rows g c = rows-append (table_messages g) (row_messages (problem_in c)) (table-rows g) (problem-rows (problem_in c))

-- ---- the rank stays within 10, so a question's order is right

rank-most : (k : ℕ) → rank_of k ≤ 10
rank-most k = go (ltb k 10) refl (eqb k 14)
  where
    go : (b : Bool) → ltb k 10 ≡ b → (d : Bool) → cond b k (cond d 2 10) ≤ 10
    go true e d = let l = ltb-true k 10 e in omega arith
    go false e true = omega arith
    go false e false = omega arith

taken-rank : (k : ℕ) (m : Message) (s : Store) → (with_message k m s).rank ≡ k
unfolding with_message
taken-rank k (naming n) s = refl
taken-rank k (recording f c ps) s = refl
taken-rank k opening s = refl
taken-rank k (row r) s = refl
taken-rank k solving s = refl
taken-rank k (asking q a b) s = refl

sent-rank : (ms : List Message) (s : Store) → s.rank ≤ 10 → (send_all ms s).store.rank ≤ 10
unfolding send_all
sent-rank [] s h = h
sent-rank (m ∷ ms) s h = go (eqb (send_refusal m s) 0) (sent-rank ms (taking m s) (subst (λ (r : ℕ). r ≤ 10) (sym (taken-rank (rank_of (message_kind m)) m s)) (rank-most (message_kind m))))
  where
    go : (b : Bool) → (send_all ms (taking m s)).store.rank ≤ 10 → (cond b (send_all ms (taking m s)) (record { refusal = send_refusal m s; store = s })).store.rank ≤ 10
    go true ih = ih
    go false ih = h

late-order : (k rank : ℕ) → rank_of k ≡ 10 → rank ≤ 10 → bad_order k rank ≡ false
unfolding bad_order
late-order k rank h l =
    ap₂ (λ (a b : Bool). a || b) (ap (λ (r : ℕ). ltb r rank) h ∙ le-ltb 10 rank l) (ap (λ (a : Bool). a && eqb rank 3) (ne_eqb k 3 (λ e. not-three (sym (ap rank_of e) ∙ h))))
  where
    not-three : ◌≡◌ {A = ℕ} 3 10 → ⊥
    not-three e = omega arith

last-refusal : (m : Message) (s : Store) → rank_of (message_kind m) ≡ 10 → s.rank ≤ 10 → send_refusal m s ≡ message_refusal m s
unfolding send_refusal checks.first_refusal
last-refusal m s h l = rw (late-order (message_kind m) s.rank h l) (go (eqb (message_refusal m s) 0) refl)
  where
    go : (b : Bool) → eqb (message_refusal m s) 0 ≡ b → cond (not b) (message_refusal m s) 0 ≡ message_refusal m s
    go true q = sym (eqb-true (message_refusal m s) 0 q)
    go false q = refl

-- ---- a question

asking-rank : (q : Question) (a b : ℕ) → rank_of (message_kind (asking q a b)) ≡ 10
unfolding message_kind
asking-rank Relating a b = refl
asking-rank Supertyping a b = refl
asking-rank Casting a b = refl

empty-rank : empty_store.rank ≤ 10
unfolding empty_store
empty-rank = omega arith

asked-said : (q : Question) (a b : ℕ) (s : Store) → Fits (asking q a b) → s.rank ≤ 10
    → (frame (line_of (asking q a b)) s).said ≡ cond (eqb (checks.first_refusal (ask_checks (shown s).tables (a ∷ b ∷ []))) 0) (answer q a b (state_view (shown s))) (Refused (checks.first_refusal (ask_checks (shown s).tables (a ∷ b ∷ []))))
unfolding message_refusal accepted
asked-said q a b s f l =
    ap (λ (u : Stepped). u.said) (frame-sends (asking q a b) s f)
    ∙ ap (λ (k : ℕ). (cond (eqb k 0) (accepted (rank_of (message_kind (asking q a b))) (asking q a b) s) (stepped (Refused k) s)).said) (last-refusal (asking q a b) s (asking-rank q a b) l)
    ∙ go (eqb (checks.first_refusal (ask_checks (shown s).tables (a ∷ b ∷ []))) 0)
  where
    r : ℕ
    r = checks.first_refusal (ask_checks (shown s).tables (a ∷ b ∷ []))

    go : (c : Bool) → (cond c (stepped (answer q a b (state_view (shown s))) (with_message (rank_of (message_kind (asking q a b))) (asking q a b) s)) (stepped (Refused r) s)).said
        ≡ cond c (answer q a b (state_view (shown s))) (Refused r)
    go true = refl
    go false = refl

-- A QUESTION ABOUT CLASSES: THE TABLE'S LINES AND THEN THE QUESTION SAY WHAT THE SLICES' FUNCTION ANSWERS
module _ (g : Given) (q : Question) (a b : ℕ) where
  -- over a view, where the rows are taken
  later : View → ℕ
  later v = cond (not (all_below v.names (a ∷ b ∷ []))) 6 (cond (eqb v.object (2 ^ 64 - 1)) 9 0)

  said_over : View → Said
  said_over v = cond (eqb (later v) 0) (answer q a b v) (Refused (later v))

  module _ (room : ℕ) (e : even g ≡ true) (w : Placed-in g) (f : AllFit (table_messages g)) (k : Fits (asking q a b)) (l : 8192 ≤ room) where
    pub query-doors : last_said Accepted (lines_for (table_messages g) ++ (line_of (asking q a b) ∷ [])) empty_store
        ≡ cond (eqb (refusal_of g false (a ∷ b ∷ []) room) 0) (answer q a b (rows_view (shown_in g))) (Refused (refusal_of g false (a ∷ b ∷ []) room))
    unfolding refusal_of table_checks good_numbers checks.first_refusal ask_checks later said_over
    query-doors =
        rows-said (table_messages g) (line_of (asking q a b) ∷ []) empty_store (table-rows g) f
        ∙ rw (le-ltb room 8192 l, e) (go (eqb t.refusal 0) refl)
      where
        t : Ended
        t = send_all (table_messages g) empty_store

        came : TableCame t g
        came = only-table-sent g w

        is : t.refusal ≡ stack_refusal_of g
        is = came.refusal-is ∙ stack-refused g

        go : (c : Bool) → eqb t.refusal 0 ≡ c
            → cond c (last_said Accepted (line_of (asking q a b) ∷ []) t.store) (Refused t.refusal)
            ≡ cond (eqb (cond (not (eqb (stack_refusal_of g) 0)) (stack_refusal_of g) (later (rows_view (shown_in g)))) 0) (answer q a b (rows_view (shown_in g)))
            (Refused (cond (not (eqb (stack_refusal_of g) 0)) (stack_refusal_of g) (later (rows_view (shown_in g)))))
        go true z =
            let n : stack_refusal_of g ≡ 0 = sym is ∙ eqb-true t.refusal 0 z in
            rw (eq-eqb (stack_refusal_of g) 0 n)
            (one-said (line_of (asking q a b)) t.store ∙ asked-said q a b t.store k (sent-rank (table_messages g) empty_store empty-rank)
            ∙ ap (λ (u : Stack). cond (eqb (checks.first_refusal (ask_checks u.top.shown.tables (a ∷ b ∷ []))) 0) (answer q a b (state_view u.top.shown)) (Refused (checks.first_refusal (ask_checks u.top.shown.tables (a ∷ b ∷ []))))) came.classes-are
            ∙ ap said_over (stack-view g e (stack-refused g ∙ n)))
        go false z =
            let n : stack_refusal_of g ≡ 0 → ⊥ = λ x. eqb-false t.refusal 0 z (is ∙ x) in
            rw (ne_eqb (stack_refusal_of g) 0 n, ne_eqb (stack_refusal_of g) 0 n) (ap Refused is)

-- ---- a solve

abbrev pub said_of : Solution → Said
said_of (Unsolved k) = Refused k
said_of (Solved table turns answers) = Answers answers

solved-said : (rank : ℕ) (s : Store) (o : Solution) → (solved_step rank s o).said ≡ said_of o
solved-said rank s (Unsolved k) = refl
solved-said rank s (Solved t n as') = refl

solve-said : (s : Store) → s.rank ≤ 10
    → (frame (line_of solving) s).said ≡ cond (eqb (shown s).tables.object (2 ^ 64 - 1)) (Refused 9) (said_of (solve (state_world (shown s)) s.problem))
unfolding message_refusal accepted ask_checks checks.first_refusal all_below message_kind
solve-said s l =
    ap (λ (u : Stepped). u.said) (frame-sends solving s tt)
    ∙ ap (λ (k : ℕ). (cond (eqb k 0) (accepted 10 solving s) (stepped (Refused k) s)).said) (last-refusal solving s refl l)
    ∙ go (eqb (shown s).tables.object (2 ^ 64 - 1))
  where
    go : (c : Bool) → (cond (eqb (cond c 9 0) 0) (solved_step 10 s (solve (state_world (shown s)) s.problem)) (stepped (Refused (cond c 9 0)) s)).said
        ≡ cond c (Refused 9) (said_of (solve (state_world (shown s)) s.problem))
    go true = refl
    go false = solved-said 10 s (solve (state_world (shown s)) s.problem)

-- WHAT THE ROWS OF A TABLE, in layers, AND OF A PROBLEM COME TO AS COLUMNS, of equal lengths and with slices that are long enough: the table's refusal, the
-- problem's, 9, or the solve
unfoldable pub rows_refusal : Given → Columns → ℕ
rows_refusal g c =
    checks.first_refusal
    (check (not (eqb (stack_refusal_of g) 0)) (stack_refusal_of g)
    ∷ check (not (eqb (problem (rows_view (shown_in g)).names c).refusal 0)) (problem (rows_view (shown_in g)).names c).refusal
    ∷ check (eqb (rows_view (shown_in g)).object (2 ^ 64 - 1)) 9
    ∷ [])

unfoldable pub rows_solution : Given → Columns → Solution
rows_solution g c = cond (eqb (rows_refusal g c) 0) (solve (rows_world (shown_in g)) (problem (rows_view (shown_in g)).names c).problem) (Unsolved (rows_refusal g c))

-- A SOLVE: THE LINES OF THE TABLE AND OF THE PROBLEM AND THEN 0a SAY WHAT THE SLICES' SOLVE COMES TO, 20 and 21 included
module _ (g : Given) (c : Columns) (e : even g ≡ true) (w : Placed-in g) (f : AllFit (all_messages g c)) where
  pub solve-doors : last_said Accepted (lines_for (all_messages g c) ++ (line_of solving ∷ [])) empty_store ≡ said_of (rows_solution g c)
  unfolding rows_solution rows_refusal checks.first_refusal
  solve-doors =
      rows-said (all_messages g c) (line_of solving ∷ []) empty_store (all-rows g c) f ∙ go (eqb tr 0) refl
    where
      tr : ℕ
      tr = stack_refusal_of g

      names : ℕ
      names = (rows_view (shown_in g)).names

      pr : ℕ
      pr = (problem (rows_view (shown_in g)).names c).refusal

      t : Ended
      t = send_all (all_messages g c) empty_store

      came : AllCame t g c
      came = all-sent g c w

      no_object : Bool
      no_object = eqb (rows_view (shown_in g)).object (2 ^ 64 - 1)

      run : Solution
      run = solve (rows_world (shown_in g)) (problem (rows_view (shown_in g)).names c).problem

      -- what is said, by the refusal of the lines
      said : ℕ → Said
      said k = cond (eqb k 0) (last_said Accepted (line_of solving ∷ []) t.store) (Refused k)

      last : (x : Bool) → cond x (Refused 9) (said_of run) ≡ said_of (cond (eqb (cond x 9 0) 0) run (Unsolved (cond x 9 0)))
      last true = refl
      last false = refl

      refused : (k : ℕ) → (k ≡ 0 → ⊥) → cond (eqb k 0) (last_said Accepted (line_of solving ∷ []) t.store) (Refused k) ≡ said_of (cond (eqb k 0) run (Unsolved k))
      refused k n = rw (ne_eqb k 0 n)

      is : t.refusal ≡ cond (eqb tr 0) (problem (stack_in g).state.top.shown.tables.names c).refusal tr
      is = came.refusal-is ∙ ap (λ (k : ℕ). cond (eqb k 0) (problem (stack_in g).state.top.shown.tables.names c).refusal k) (stack-refused g)

      taken : tr ≡ 0 → (y : Bool) → eqb pr 0 ≡ y
          → cond (eqb pr 0) (last_said Accepted (line_of solving ∷ []) t.store) (Refused pr)
          ≡ said_of (cond (eqb (cond (not y) pr (cond no_object 9 0)) 0) run (Unsolved (cond (not y) pr (cond no_object 9 0))))
      taken n false ey = refused pr (eqb-false pr 0 ey)
      taken n true ey =
          let z = stack-refused g ∙ n in
          let v = stack-view g e z in
          rw ey
          (one-said (line_of solving) t.store ∙ solve-said t.store (sent-rank (all_messages g c) empty_store empty-rank)
          ∙ ap₂ (λ (u : Stack) (o : Problem). cond (eqb u.top.shown.tables.object (2 ^ 64 - 1)) (Refused 9) (said_of (solve (state_world u.top.shown) o))) (came.classes-are z) (came.problem-is z)
          ∙ ap₂ (λ (x : View) (y : World). cond (eqb x.object (2 ^ 64 - 1)) (Refused 9) (said_of (solve y (problem x.names c).problem))) v (stack-world g e z)
          ∙ last no_object)

      go : (x : Bool) → eqb tr 0 ≡ x
          → cond (eqb t.refusal 0) (last_said Accepted (line_of solving ∷ []) t.store) (Refused t.refusal)
          ≡ said_of (cond (eqb (cond (not x) tr (cond (not (eqb pr 0)) pr (cond no_object 9 0))) 0) run (Unsolved (cond (not x) tr (cond (not (eqb pr 0)) pr (cond no_object 9 0)))))
      go false ex = ap said (is ∙ ap (λ (b : Bool). cond b (problem (stack_in g).state.top.shown.tables.names c).refusal tr) ex) ∙ refused tr (eqb-false tr 0 ex)
      go true ex =
          let n = eqb-true tr 0 ex in
          ap said (is ∙ ap (λ (b : Bool). cond b (problem (stack_in g).state.top.shown.tables.names c).refusal tr) ex ∙ ap (λ (x : View). (problem x.names c).refusal) (stack-view g e (stack-refused g ∙ n)))
          ∙ taken n (eqb pr 0) refl
