-- ROWS AS MESSAGES: a list of messages in order of kind, taken one after the other until one is refused, comes to what the columns of
-- the same rows come to: the same refusal, the same layers, the same problem.
use Rattle.std.specs.Prelude.{◌≡◌, Bool, not, ◌&&◌, ◌||◌, ℕ, ◌+◌, ◌≤◌, ◌<◌, leb, length, take, drop}
use Rattle.std.proofs.Math.Path.{refl, sym, ap, ap₂}
use Rattle.std.proofs.Common.{◌∙◌, subst, arith, eq-eqb, ne_eqb, le-ltb, eqb-true}
use Rattle.std.proofs.Math.Bool.{true, false, cond}
use mathlib.Core.List.{List, [], ◌∷◌, ◌++◌}
use Rattle.std.proofs.Math.Dec.{eqb}
use Rattle.std.proofs.lemmas.Bool.{eqb-false}
use Rattle.checks.specs.Checks as checks
use Rattle.checks.specs.Checks.{check}
use Rattle.names.specs.Names.{check_name, name_of}
use Rattle.rows.specs.declared.Outcome.{Outcome}
use Rattle.rows.specs.Rows.{name_row, State, record_refusal, record_row}
use Rattle.rows.specs.Laws.{name-refused, record-refused}
use Rattle.columns.specs.Columns.{inside}
use Rattle.columns.specs.Fold.{Row, misplaced, named, recorded, names_in, records_in}
use Rattle.columns.specs.Given.{Given, no_marks}
use Rattle.layers.specs.Layers.{Layered, layer_refusal, layer_row, opened}
use Rattle.layers.specs.Laws.{layer-refused}
use Rattle.layers.specs.Stacks.{Stack, with_names, StackRan, stack_refusal, stack_row, stack_ran, open_refusal, open_row, open_ran}
use Rattle.layercolumns.specs.LayerColumns.{open_flags, opening_row}
use Rattle.layercolumns.specs.Fold.{StackReading, told, recorded_ran, stack_step, stack_run, stack_start, stack-fold}
use Rattle.stackview.specs.Agrees.{stack_in}
use Rattle.solving.specs.Solving.{Problem}
use Rattle.problems.specs.Problems.{ProblemRow, counted, variable, bounded, flow, upper_flow, reading, writing, no_problem, with_row, row_refusal, problem_row, problem_rows, Placed, Columns, variable_rows, bound_rows, pair_rows, problem_in, problem}
use Rattle.frames.specs.Frames.{Store, empty_store, shown, rank_of, bad_order, Message, naming, recording, opening, row, solving, asking, Relating, Supertyping, Casting, message_refusal, with_message}
use Rattle.framelaws.specs.Reached.{order-says}

-- ---- a message's kind

unfoldable pub row_kind : ProblemRow → ℕ
row_kind (counted n) = 3
row_kind (variable c) = 4
row_kind (bounded c k w) = 5
row_kind (flow a b) = 6
row_kind (upper_flow a b) = 7
row_kind (reading a b) = 8
row_kind (writing a b) = 9

unfoldable pub message_kind : Message → ℕ
message_kind (naming n) = 1
message_kind (recording f c ps) = 2
message_kind opening = 14
message_kind (row r) = row_kind r
message_kind solving = 10
message_kind (asking Relating a b) = 11
message_kind (asking Supertyping a b) = 12
message_kind (asking Casting a b) = 13

-- ---- messages one after the other, until one is refused: ORDER, then as its row

pub record Ended : Type 0 where
  pub refusal : ℕ
  pub store : Store

unfoldable pub send_refusal : Message → Store → ℕ
send_refusal m s = checks.first_refusal (check (bad_order (message_kind m) s.rank) 4 ∷ check (not (eqb (message_refusal m s) 0)) (message_refusal m s) ∷ [])

abbrev pub taking : Message → Store → Store
taking m s = with_message (rank_of (message_kind m)) m s

unfoldable pub send_all : List Message → Store → Ended
send_all [] s = record { refusal = 0; store = s }
send_all (m ∷ ms) s = cond (eqb (send_refusal m s) 0) (send_all ms (taking m s)) (record { refusal = send_refusal m s; store = s })

-- the same with no test of the order
unfoldable pub take_all : List Message → Store → Ended
take_all [] s = record { refusal = 0; store = s }
take_all (m ∷ ms) s = cond (eqb (message_refusal m s) 0) (take_all ms (taking m s)) (record { refusal = message_refusal m s; store = s })

-- ---- in order of kind the order refuses nothing

abbrev pub InOrder : ℕ → List Message → Type 0
InOrder r [] = Unit {0}
InOrder r (m ∷ ms) = (bad_order (message_kind m) r ≡ false) × InOrder (rank_of (message_kind m)) ms

rank-after : (k : ℕ) (m : Message) (s : Store) → (with_message k m s).rank ≡ k
unfolding with_message
rank-after k (naming n) s = refl
rank-after k (recording f c ps) s = refl
rank-after k opening s = refl
rank-after k (row r) s = refl
rank-after k solving s = refl
rank-after k (asking q a b) s = refl

send-row : (m : Message) (s : Store) → bad_order (message_kind m) s.rank ≡ false → send_refusal m s ≡ message_refusal m s
unfolding send_refusal checks.first_refusal
send-row m s e = rw e (go (eqb (message_refusal m s) 0) refl)
  where
    go : (b : Bool) → eqb (message_refusal m s) 0 ≡ b → cond (not b) (message_refusal m s) 0 ≡ message_refusal m s
    go true q = sym (eqb-true (message_refusal m s) 0 q)
    go false q = refl

pub send-take : (ms : List Message) (s : Store) → InOrder s.rank ms → send_all ms s ≡ take_all ms s
unfolding send_all take_all
send-take [] s o = refl
send-take (m ∷ ms) s o =
    let e = send-row m s o.0 in
    let ih = send-take ms (taking m s) (subst (λ (r : ℕ). InOrder r ms) (sym (rank-after (rank_of (message_kind m)) m s)) o.1) in
    ap (λ (k : ℕ). cond (eqb k 0) (send_all ms (taking m s)) (record { refusal = k; store = s })) e
    ∙ ap (λ (u : Ended). cond (eqb (message_refusal m s) 0) u (record { refusal = message_refusal m s; store = s })) ih

-- a lower rank refuses no more
order-lower : (k r q : ℕ) → r ≤ q → bad_order k q ≡ false → bad_order k r ≡ false
unfolding bad_order
order-lower k r q l h =
    let o = order-says k q h in
    let z = o.0 in
    ap₂ (λ (a b : Bool). a || b) (le-ltb (rank_of k) r (omega arith)) (go (eqb k 3) refl (eqb r 3) refl)
  where
    go : (a : Bool) → eqb k 3 ≡ a → (b : Bool) → eqb r 3 ≡ b → (a && b) ≡ false
    go true ea true eb =
        let o = order-says k q h in
        let kk = eqb-true k 3 ea in
        let z = o.0 in
        let rr = ap rank_of kk in
        absurd (o.1 kk (let w = eqb-true r 3 eb in omega arith))
    go true ea false eb = refl
    go false ea b eb = refl

pub in-order-lower : (r q : ℕ) (ms : List Message) → r ≤ q → InOrder q ms → InOrder r ms
in-order-lower r q [] l o = tt
in-order-lower r q (m ∷ ms) l o = (order-lower (message_kind m) r q l o.0, o.1)

abbrev AllRanked : ℕ → List Message → Type 0
AllRanked i [] = Unit {0}
AllRanked i (m ∷ ms) = (rank_of (message_kind m) ≡ i) × AllRanked i ms

own-order : (k r : ℕ) → (rank_of k ≡ 3 → ⊥) → r ≤ rank_of k → bad_order k r ≡ false
unfolding bad_order
own-order k r n l = ap₂ (λ (a b : Bool). a || b) (le-ltb (rank_of k) r l) (ap (λ (a : Bool). a && eqb r 3) (ne_eqb k 3 (λ e. n (ap rank_of e))))

-- a block of one rank, but 03, before what may follow it
block : (i : ℕ) (ms rest : List Message) (r : ℕ) → (i ≡ 3 → ⊥) → AllRanked i ms → r ≤ i → InOrder i rest → InOrder r (ms ++ rest)
block i [] rest r n a l o = in-order-lower r i rest l o
block i (m ∷ ms) rest r n a l o = (
  own-order (message_kind m) r (λ e. n (sym a.0 ∙ e)) (let k = a.0 in omega arith),
  subst (λ (k : ℕ). InOrder k (ms ++ rest)) (sym a.0) (block i ms rest i n a.1 (omega arith) o),
)

-- ---- the messages of columns

-- a row with flags 0x8e opens a layer
abbrev pub message_for : Row → Message
message_for misplaced = naming []
message_for (named n) = naming n
message_for (recorded f c ps) = cond (eqb f open_flags) opening (recording f c ps)

unfoldable pub messages_for : List Row → List Message
messages_for [] = []
messages_for (x ∷ xs) = message_for x ∷ messages_for xs

unfoldable pub row_messages : List ProblemRow → List Message
row_messages [] = []
row_messages (r ∷ rs) = row r ∷ row_messages rs

-- names, then records
unfoldable pub table_messages : Given → List Message
table_messages g = messages_for (names_in g.names g.name_at g.name_len) ++ messages_for (records_in g.parents g.rec_flags g.rec_class g.rec_at g.rec_len)

-- and a problem's rows, in order of kind
unfoldable pub all_messages : Given → Columns → List Message
all_messages g c = table_messages g ++ row_messages (problem_in c)

-- a row that opens a layer is of class 0 and lists nothing: no frame can say it otherwise
abbrev pub Bare : ℕ → ℕ → List ℕ → Type 0
Bare f c ps = f ≡ open_flags → (c ≡ 0) × (ps ≡ [])

-- each row lies inside its slice, and a frame can say it
abbrev pub Whole : List Row → Type 0
Whole [] = Unit {0}
Whole (misplaced ∷ xs) = ⊥
Whole (named n ∷ xs) = Whole xs
Whole (recorded f c ps ∷ xs) = Bare f c ps × Whole xs

abbrev pub Placed-in : Given → Type 0
Placed-in g = Whole (names_in g.names g.name_at g.name_len ++ records_in g.parents g.rec_flags g.rec_class g.rec_at g.rec_len)

-- ---- a row of flags, class and parents

row-opens : (f c : ℕ) (ps : List ℕ) (s : Stack) → Bare f c ps → eqb f open_flags ≡ true → recorded_ran f c ps s ≡ open_ran s
unfolding recorded_ran opening_row
row-opens f c ps s w e = let k = w (eqb-true f open_flags e) in rw (e, k.0, k.1)

pub row-records : (f c : ℕ) (ps : List ℕ) (s : Stack) → eqb f open_flags ≡ false → recorded_ran f c ps s ≡ stack_ran s f c ps
unfolding recorded_ran
row-records f c ps s e = rw e

-- a refused one leaves the layers
open-refused : (s : Stack) → (open_refusal s ≡ 0 → ⊥) → open_row s ≡ s
unfolding open_refusal open_row
open-refused s n = go (leb 3 s.under) n
  where
    go : (b : Bool) → (cond {A = ℕ} b 8 0 ≡ 0 → ⊥) → cond b s (record { top = opened s.top.shown; under = s.under + 1 }) ≡ s
    go true k = refl
    go false k = absurd (k refl)

stack-refused : (s : Stack) (f c : ℕ) (ps : List ℕ) → (stack_refusal s f c ps ≡ 0 → ⊥) → stack_row s f c ps ≡ s
unfolding stack_refusal stack_row
stack-refused s f c ps n = go (eqb s.under 0) n
  where
    go : (b : Bool) → (cond b (record_refusal s.top.shown.tables.names s.top.shown.keys f c ps) (layer_refusal s.top f c ps) ≡ 0 → ⊥)
        → cond b (record { top = record { shown = record_row s.top.shown f c ps; own = s.top.own }; under = s.under }) (record { top = layer_row s.top f c ps; under = s.under }) ≡ s
    go true k = ap (λ (u : State). record { top = record { shown = u; own = s.top.own }; under = s.under }) (record-refused s.top.shown f c ps k)
    go false k = ap (λ (l : Layered). record { top = l; under = s.under }) (layer-refused s.top f c ps k)

row-refused : (f c : ℕ) (ps : List ℕ) (s : Stack) → Bare f c ps → ((recorded_ran f c ps s).refusal ≡ 0 → ⊥) → (recorded_ran f c ps s).state ≡ s
row-refused f c ps s w n = go (eqb f open_flags) refl
  where
    go : (b : Bool) → eqb f open_flags ≡ b → (recorded_ran f c ps s).state ≡ s
    go true e =
        let k = row-opens f c ps s w e in
        ap (λ (u : StackRan). u.state) k ∙ open-refused s (λ z. n (ap (λ (u : StackRan). u.refusal) k ∙ z))
    go false e =
        let k = row-records f c ps s e in
        ap (λ (u : StackRan). u.state) k ∙ stack-refused s f c ps (λ z. n (ap (λ (u : StackRan). u.refusal) k ∙ z))

-- ---- one row of a table

-- the layers and the last name are those of a reading
pub record Shows (s : Store) (r : StackReading) : Type 0 where
  pub last-is : s.last ≡ r.last
  pub classes-are : s.classes ≡ r.state

module _ (s : Store) (r : StackReading) (h : Shows s r) where
  refusal-same : (x : Row) → Whole (x ∷ []) → message_refusal (message_for x) s ≡ (stack_step x r).refusal
  unfolding message_refusal stack_step
  refusal-same misplaced w = absurd w
  refusal-same (named n) w = ap₂ (λ (l : List ℕ) (u : Stack). (name_row l n u.top.shown.tables).refusal) h.last-is h.classes-are
  refusal-same (recorded f c ps) w = go (eqb f open_flags) refl
    where
      go : (b : Bool) → eqb f open_flags ≡ b → message_refusal (cond b opening (recording f c ps)) s ≡ (recorded_ran f c ps r.state).refusal
      go true e = ap open_refusal h.classes-are ∙ sym (ap (λ (u : StackRan). u.refusal) (row-opens f c ps r.state w.0 e))
      go false e = ap (λ (u : Stack). stack_refusal u f c ps) h.classes-are ∙ sym (ap (λ (u : StackRan). u.refusal) (row-records f c ps r.state e))

  taken-shows : (x : Row) → Whole (x ∷ []) → (k : ℕ) → (stack_step x r).refusal ≡ 0 → Shows (with_message k (message_for x) s) (stack_step x r)
  unfolding with_message stack_step
  taken-shows misplaced w k z = absurd w
  taken-shows (named n) w k z = record {
    last-is = sym (ap (λ (b : Bool). cond b n r.last) (eq-eqb (name_row r.last n r.state.top.shown.tables).refusal 0 z));
    classes-are = ap₂ (λ (l : List ℕ) (u : Stack). with_names u (name_row l n u.top.shown.tables).tables) h.last-is h.classes-are;
  }
  taken-shows (recorded f c ps) w k z = go (eqb f open_flags) refl
    where
      go : (b : Bool) → eqb f open_flags ≡ b → Shows (with_message k (cond b opening (recording f c ps)) s) (stack_step (recorded f c ps) r)
      go true e = record { last-is = h.last-is; classes-are = ap open_row h.classes-are ∙ sym (ap (λ (u : StackRan). u.state) (row-opens f c ps r.state w.0 e)) }
      go false e = record { last-is = h.last-is; classes-are = ap (λ (u : Stack). stack_row u f c ps) h.classes-are ∙ sym (ap (λ (u : StackRan). u.state) (row-records f c ps r.state e)) }

  problem-stays : (x : Row) (k : ℕ) → (with_message k (message_for x) s).problem ≡ s.problem
  unfolding with_message
  problem-stays misplaced k = refl
  problem-stays (named n) k = refl
  problem-stays (recorded f c ps) k = go (eqb f open_flags)
    where
      go : (b : Bool) → (with_message k (cond b opening (recording f c ps)) s).problem ≡ s.problem
      go true = refl
      go false = refl

  -- a refused row leaves the layers
  refused-state : (x : Row) → Whole (x ∷ []) → ((stack_step x r).refusal ≡ 0 → ⊥) → (stack_step x r).state ≡ r.state
  unfolding stack_step name_row
  refused-state misplaced w n = absurd w
  refused-state (named name) w n =
      let e = name-refused r.last name r.state.top.shown.tables (name_row r.last name r.state.top.shown.tables).refusal refusal-is n in
      ap (λ (o : Outcome). with_names r.state o.tables) e
    where
      refusal-is : (name_row r.last name r.state.top.shown.tables).refusal ≡ check_name r.last name r.state.top.shown.tables.names r.state.top.shown.tables.bytes
      refusal-is = refl
  refused-state (recorded f c ps) w n = row-refused f c ps r.state w.0 n

whole-one : (x : Row) (xs : List Row) → Whole (x ∷ xs) → Whole (x ∷ []) × Whole xs
whole-one misplaced xs w = absurd w
whole-one (named n) xs w = (tt, w)
whole-one (recorded f c ps) xs w = ((w.0, tt), w.1)

-- ---- all rows of a table

pub record Came (e : Ended) (r : StackReading) (p : Problem) : Type 0 where
  pub refusal-is : e.refusal ≡ r.refusal
  pub classes-are : e.store.classes ≡ r.state
  pub problem-is : e.store.problem ≡ p

pub table-came : (xs : List Row) (r : StackReading) (s : Store) → Whole xs → r.refusal ≡ 0 → Shows s r → Came (take_all (messages_for xs) s) (stack_run xs r) s.problem
unfolding take_all messages_for stack_run
table-came [] r s w z h = record { refusal-is = sym z; classes-are = h.classes-are; problem-is = refl }
table-came (x ∷ xs) r s w z h = go (eqb (message_refusal (message_for x) s) 0) refl (λ k. table-came xs (stack_step x r) (taking (message_for x) s) parts.1 k)
  where
    parts : Whole (x ∷ []) × Whole xs
    parts = whole-one x xs w

    same : message_refusal (message_for x) s ≡ (stack_step x r).refusal
    same = refusal-same s r h x parts.0

    go : (b : Bool) → eqb (message_refusal (message_for x) s) 0 ≡ b
        → (((stack_step x r).refusal ≡ 0) → Shows (taking (message_for x) s) (stack_step x r) → Came (take_all (messages_for xs) (taking (message_for x) s)) (stack_run xs (stack_step x r)) (taking (message_for x) s).problem)
        → Came (cond b (take_all (messages_for xs) (taking (message_for x) s)) (record { refusal = message_refusal (message_for x) s; store = s }))
        (cond (eqb (stack_step x r).refusal 0) (stack_run xs (stack_step x r)) (stack_step x r)) s.problem
    go true e ih =
        let zero = sym same ∙ eqb-true (message_refusal (message_for x) s) 0 e in
        rw (eq-eqb (stack_step x r).refusal 0 zero) (subst (Came (take_all (messages_for xs) (taking (message_for x) s)) (stack_run xs (stack_step x r))) (problem-stays s r h x (rank_of (message_kind (message_for x))))
        (ih zero (taken-shows s r h x parts.0 (rank_of (message_kind (message_for x))) zero)))
    go false e ih =
        let n : (stack_step x r).refusal ≡ 0 → ⊥ = λ q. eqb-false (message_refusal (message_for x) s) 0 e (same ∙ q) in
        rw (ne_eqb (stack_step x r).refusal 0 n) (record {
          refusal-is = same;
          classes-are = h.classes-are ∙ sym (refused-state s r h x parts.0 n);
          problem-is = refl;
        })

-- ---- the rows of a problem

pub record Solvable (e : Ended) (o : Placed) (u : Stack) : Type 0 where
  pub refusal-is : e.refusal ≡ o.refusal
  pub problem-is : e.store.problem ≡ o.problem
  pub classes-are : e.store.classes ≡ u

pub problem-came : (rs : List ProblemRow) (s : Store) → Solvable (take_all (row_messages rs) s) (problem_rows (shown s).tables.names rs s.problem) s.classes
unfolding take_all row_messages problem_rows problem_row message_refusal with_message
problem-came [] s = record { refusal-is = refl; problem-is = refl; classes-are = refl }
problem-came (r ∷ rs) s = go (eqb (row_refusal (shown s).tables.names r s.problem) 0) refl (problem-came rs (taking (row r) s))
  where
    names : ℕ
    names = (shown s).tables.names

    go : (b : Bool) → eqb (row_refusal (shown s).tables.names r s.problem) 0 ≡ b
        → Solvable (take_all (row_messages rs) (taking (row r) s)) (problem_rows (shown s).tables.names rs (problem_row (shown s).tables.names r s.problem).problem) s.classes
        → Solvable (cond b (take_all (row_messages rs) (taking (row r) s)) (record { refusal = row_refusal (shown s).tables.names r s.problem; store = s }))
        (cond b (problem_rows (shown s).tables.names rs (problem_row (shown s).tables.names r s.problem).problem) (problem_row (shown s).tables.names r s.problem)) s.classes
    go true e ih = ih
    go false e ih = record { refusal-is = refl; problem-is = sym (ap (λ (b : Bool). cond b (with_row r s.problem) s.problem) e); classes-are = refl }

-- ---- one list after another

pub take-append : (xs ys : List Message) (s : Store) → take_all (xs ++ ys) s ≡ cond (eqb (take_all xs s).refusal 0) (take_all ys (take_all xs s).store) (take_all xs s)
unfolding take_all
take-append [] ys s = refl
take-append (m ∷ ms) ys s = go (eqb (message_refusal m s) 0) refl (take-append ms ys (taking m s))
  where
    go : (b : Bool) → eqb (message_refusal m s) 0 ≡ b
        → take_all (ms ++ ys) (taking m s) ≡ cond (eqb (take_all ms (taking m s)).refusal 0) (take_all ys (take_all ms (taking m s)).store) (take_all ms (taking m s))
        → cond b (take_all (ms ++ ys) (taking m s)) (record { refusal = message_refusal m s; store = s })
        ≡ cond (eqb (cond b (take_all ms (taking m s)) (record { refusal = message_refusal m s; store = s })).refusal 0)
        (take_all ys (cond b (take_all ms (taking m s)) (record { refusal = message_refusal m s; store = s })).store)
        (cond b (take_all ms (taking m s)) (record { refusal = message_refusal m s; store = s }))
    go true e ih = ih
    go false e ih = rw e

messages-append : (xs ys : List Row) → messages_for (xs ++ ys) ≡ messages_for xs ++ messages_for ys
unfolding messages_for
messages-append [] ys = refl
messages-append (x ∷ xs) ys = ap (λ (l : List Message). message_for x ∷ l) (messages-append xs ys)

-- ---- kinds

append-assoc : (xs ys zs : List Message) → (xs ++ ys) ++ zs ≡ xs ++ (ys ++ zs)
append-assoc [] ys zs = refl
append-assoc (x ∷ xs) ys zs = ap (λ (l : List Message). x ∷ l) (append-assoc xs ys zs)

rows-append : (xs ys : List ProblemRow) → row_messages (xs ++ ys) ≡ row_messages xs ++ row_messages ys
unfolding row_messages
rows-append [] ys = refl
rows-append (x ∷ xs) ys = ap (λ (l : List Message). row x ∷ l) (rows-append xs ys)

whole-right : (xs ys : List Row) → Whole (xs ++ ys) → Whole ys
whole-right [] ys w = w
whole-right (misplaced ∷ xs) ys w = absurd w
whole-right (named n ∷ xs) ys w = whole-right xs ys w
whole-right (recorded f c ps ∷ xs) ys w = whole-right xs ys w.1

names-kind : (bytes ats lens : List ℕ) → AllRanked 1 (messages_for (names_in bytes ats lens))
unfolding messages_for names_in message_kind
names-kind bytes [] lens = tt
names-kind bytes (at ∷ ats) [] = tt
names-kind bytes (at ∷ ats) (len ∷ lens) = (go (inside (length bytes) at len), names-kind bytes ats lens)
  where
    go : (b : Bool) → rank_of (message_kind (message_for (cond b (named (name_of bytes at len)) misplaced))) ≡ 1
    go true = refl
    go false = refl

records-kind : (parents fs cs ats ls : List ℕ) → Whole (records_in parents fs cs ats ls) → AllRanked 2 (messages_for (records_in parents fs cs ats ls))
unfolding messages_for records_in message_kind
records-kind parents [] cs ats ls w = tt
records-kind parents (f ∷ fs) [] ats ls w = tt
records-kind parents (f ∷ fs) (c ∷ cs) [] ls w = tt
records-kind parents (f ∷ fs) (c ∷ cs) (a ∷ ats) [] w = tt
records-kind parents (f ∷ fs) (c ∷ cs) (a ∷ ats) (l ∷ ls) w = go (inside (length parents) a l) w (records-kind parents fs cs ats ls)
  where
    go : (b : Bool) → Whole (cond b (recorded f c (take l (drop a parents))) misplaced ∷ records_in parents fs cs ats ls)
        → (Whole (records_in parents fs cs ats ls) → AllRanked 2 (messages_for (records_in parents fs cs ats ls)))
        → (rank_of (message_kind (message_for (cond b (recorded f c (take l (drop a parents))) misplaced))) ≡ 2) × AllRanked 2 (messages_for (records_in parents fs cs ats ls))
    go true v ih = (two (eqb f open_flags), ih v.1)
      where
        two : (d : Bool) → rank_of (message_kind (cond d opening (recording f c (take l (drop a parents))))) ≡ 2
        two true = refl
        two false = refl
    go false v ih = absurd v

variables-kind : (cs : List ℕ) → AllRanked 4 (row_messages (variable_rows cs))
unfolding row_messages variable_rows message_kind row_kind
variables-kind [] = tt
variables-kind (c ∷ cs) = (refl, variables-kind cs)

bounds-kind : (cs ks ws : List ℕ) → AllRanked 5 (row_messages (bound_rows cs ks ws))
unfolding row_messages bound_rows message_kind row_kind
bounds-kind [] ks ws = tt
bounds-kind (c ∷ cs) [] ws = tt
bounds-kind (c ∷ cs) (k ∷ ks) [] = tt
bounds-kind (c ∷ cs) (k ∷ ks) (w ∷ ws) = (refl, bounds-kind cs ks ws)

pairs-kind : (i : ℕ) (make : ℕ → ℕ → ProblemRow) → ((a b : ℕ) → rank_of (message_kind (row (make a b))) ≡ i) → (xs ys : List ℕ) → AllRanked i (row_messages (pair_rows make xs ys))
unfolding row_messages pair_rows
pairs-kind i make e [] ys = tt
pairs-kind i make e (x ∷ xs) [] = tt
pairs-kind i make e (x ∷ xs) (y ∷ ys) = (e x y, pairs-kind i make e xs ys)

append-nothing : (xs : List Message) → xs ++ [] ≡ xs
append-nothing [] = refl
append-nothing (x ∷ xs) = ap (λ (l : List Message). x ∷ l) (append-nothing xs)

problem-order : (c : Columns) (r : ℕ) → r < 3 → InOrder r (row_messages (problem_in c))
unfolding problem_in row_messages message_kind row_kind bad_order
problem-order c r l = (
  ap₂ (λ (a b : Bool). a || b) (le-ltb 3 r (omega arith)) (ne_eqb r 3 (λ e. omega arith)),
  subst (InOrder 3) (sym (rows-append r4 t4))
      (block 4 (row_messages r4) (row_messages t4) 3 (λ e. omega arith) (variables-kind c.variables) (omega arith)
      (subst (InOrder 4) (sym (rows-append r5 t5))
      (block 5 (row_messages r5) (row_messages t5) 4 (λ e. omega arith) (bounds-kind c.bound_components c.bound_kinds c.bound_words) (omega arith)
      (subst (InOrder 5) (sym (rows-append r6 t6))
      (block 6 (row_messages r6) (row_messages t6) 5 (λ e. omega arith) (pairs-kind 6 flow (λ a b. refl) c.flow_sources c.flow_targets) (omega arith)
      (subst (InOrder 6) (sym (rows-append r7 t7))
      (block 7 (row_messages r7) (row_messages t7) 6 (λ e. omega arith) (pairs-kind 7 upper_flow (λ a b. refl) c.upper_sources c.upper_targets) (omega arith)
      (subst (InOrder 7) (sym (rows-append r8 r9))
      (block 8 (row_messages r8) (row_messages r9) 7 (λ e. omega arith) (pairs-kind 8 reading (λ a b. refl) c.read_arrays c.read_results) (omega arith)
      (subst (InOrder 8) (append-nothing (row_messages r9))
      (block 9 (row_messages r9) [] 8 (λ e. omega arith) (pairs-kind 9 writing (λ a b. refl) c.write_arrays c.write_values) (omega arith) tt))))))))))),
)
  where
    r4 : List ProblemRow
    r4 = variable_rows c.variables

    r5 : List ProblemRow
    r5 = bound_rows c.bound_components c.bound_kinds c.bound_words

    r6 : List ProblemRow
    r6 = pair_rows flow c.flow_sources c.flow_targets

    r7 : List ProblemRow
    r7 = pair_rows upper_flow c.upper_sources c.upper_targets

    r8 : List ProblemRow
    r8 = pair_rows reading c.read_arrays c.read_results

    r9 : List ProblemRow
    r9 = pair_rows writing c.write_arrays c.write_values

    t7 : List ProblemRow
    t7 = r8 ++ r9

    t6 : List ProblemRow
    t6 = r7 ++ t7

    t5 : List ProblemRow
    t5 = r6 ++ t6

    t4 : List ProblemRow
    t4 = r5 ++ t5

-- what follows a table's rows in order
pub table-order : (g : Given) (rest : List Message) → Placed-in g → InOrder 2 rest → InOrder 0 (table_messages g ++ rest)
unfolding table_messages
table-order g rest w o =
    subst (InOrder 0) (sym (append-assoc (messages_for names) (messages_for records) rest))
    (block 1 (messages_for names) (messages_for records ++ rest) 0 (λ e. omega arith) (names-kind g.names g.name_at g.name_len) (omega arith)
    (block 2 (messages_for records) rest 1 (λ e. omega arith)
    (records-kind g.parents g.rec_flags g.rec_class g.rec_at g.rec_len (whole-right names records w)) (omega arith) o))
  where
    names : List Row
    names = names_in g.names g.name_at g.name_len

    records : List Row
    records = records_in g.parents g.rec_flags g.rec_class g.rec_at g.rec_len

shows-start : Shows empty_store (stack_start no_marks)
unfolding empty_store
shows-start = record { last-is = refl; classes-are = refl }

empty-problem : empty_store.problem ≡ no_problem
unfolding empty_store
empty-problem = refl

-- ---- THE TABLE

-- what a table's messages come to is what its columns come to
pub record TableCame (e : Ended) (g : Given) : Type 0 where
  pub refusal-is : e.refusal ≡ (stack_in g).refusal
  pub classes-are : e.store.classes ≡ (stack_in g).state
  pub problem-is : e.store.problem ≡ no_problem

pub table-sent : (g : Given) → Placed-in g → TableCame (take_all (table_messages g) empty_store) g
unfolding table_messages stack_in
table-sent g w =
    subst (λ (ms : List Message). TableCame (take_all ms empty_store) g) (messages-append names records) (record {
      refusal-is = came.refusal-is ∙ sym (ap (λ (u : StackRan). u.refusal) fold);
      classes-are = came.classes-are ∙ sym (ap (λ (u : StackRan). u.state) fold);
      problem-is = came.problem-is ∙ empty-problem;
    })
  where
    names : List Row
    names = names_in g.names g.name_at g.name_len

    records : List Row
    records = records_in g.parents g.rec_flags g.rec_class g.rec_at g.rec_len

    came : Came (take_all (messages_for (names ++ records)) empty_store) (stack_run (names ++ records) (stack_start no_marks)) empty_store.problem
    came = table-came (names ++ records) (stack_start no_marks) empty_store w refl shows-start

    fold : stack_in g ≡ told (stack_run (names ++ records) (stack_start no_marks))
    fold = stack-fold g.names g.name_at g.name_len g.parents g.rec_flags g.rec_class g.rec_at g.rec_len no_marks

-- ---- THE TABLE AND THE PROBLEM

pub record AllCame (e : Ended) (g : Given) (c : Columns) : Type 0 where
  -- the refusal of the first row that is refused
  pub refusal-is : e.refusal ≡ cond (eqb (stack_in g).refusal 0) (problem (stack_in g).state.top.shown.tables.names c).refusal (stack_in g).refusal
  -- and where the table is taken, the problem too
  pub classes-are : (stack_in g).refusal ≡ 0 → e.store.classes ≡ (stack_in g).state
  pub problem-is : (stack_in g).refusal ≡ 0 → e.store.problem ≡ (problem (stack_in g).state.top.shown.tables.names c).problem

all-taken : (g : Given) (c : Columns) → Placed-in g → AllCame (take_all (all_messages g c) empty_store) g c
unfolding all_messages problem
all-taken g c w = subst (λ (e : Ended). AllCame e g c) (sym (take-append (table_messages g) (row_messages (problem_in c)) empty_store)) (go (eqb first.refusal 0) refl)
  where
    first : Ended
    first = take_all (table_messages g) empty_store

    came : TableCame first g
    came = table-sent g w

    names-are : (shown first.store).tables.names ≡ (stack_in g).state.top.shown.tables.names
    names-are = ap (λ (u : Stack). u.top.shown.tables.names) came.classes-are

    rest : Solvable (take_all (row_messages (problem_in c)) first.store) (problem_rows (stack_in g).state.top.shown.tables.names (problem_in c) no_problem) first.store.classes
    rest =
        subst (λ (o : Placed). Solvable (take_all (row_messages (problem_in c)) first.store) o first.store.classes)
        (ap₂ (λ (n : ℕ) (p : Problem). problem_rows n (problem_in c) p) names-are came.problem-is) (problem-came (problem_in c) first.store)

    go : (b : Bool) → eqb first.refusal 0 ≡ b → AllCame (cond b (take_all (row_messages (problem_in c)) first.store) first) g c
    go true e =
        let z = sym came.refusal-is ∙ eqb-true first.refusal 0 e in
        record {
          refusal-is = rest.refusal-is ∙ sym (ap (λ (b : Bool). cond b (problem_rows (stack_in g).state.top.shown.tables.names (problem_in c) no_problem).refusal (stack_in g).refusal) (eq-eqb (stack_in g).refusal 0 z));
          classes-are = λ q. rest.classes-are ∙ came.classes-are;
          problem-is = λ q. rest.problem-is;
        }
    go false e =
        let n : (stack_in g).refusal ≡ 0 → ⊥ = λ q. eqb-false first.refusal 0 e (came.refusal-is ∙ q) in
        record {
          refusal-is = came.refusal-is ∙ sym (ap (λ (b : Bool). cond b (problem_rows (stack_in g).state.top.shown.tables.names (problem_in c) no_problem).refusal (stack_in g).refusal) (ne_eqb (stack_in g).refusal 0 n));
          classes-are = λ q. absurd (n q);
          problem-is = λ q. absurd (n q);
        }

-- ROWS SENT IN ORDER OF KIND COME TO WHAT THE COLUMNS COME TO: the same first refusal, else the same tables and the same problem
pub all-sent : (g : Given) (c : Columns) → Placed-in g → AllCame (send_all (all_messages g c) empty_store) g c
unfolding all_messages empty_store
all-sent g c w =
    subst (λ (e : Ended). AllCame e g c)
    (sym (send-take (all_messages g c) empty_store (table-order g (row_messages (problem_in c)) w (problem-order c 2 (omega arith)))))
    (all-taken g c w)

pub only-table-sent : (g : Given) → Placed-in g → TableCame (send_all (table_messages g) empty_store) g
unfolding empty_store
only-table-sent g w =
    subst (λ (e : Ended). TableCame e g)
    (sym (send-take (table_messages g) empty_store (subst (InOrder 0) (append-nothing (table_messages g)) (table-order g [] w tt))))
    (table-sent g w)
