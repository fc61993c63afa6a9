-- WHAT A SOLVE OVER SLICES THAT IS NOT REFUSED GIVES, in terms of what came back and of the caller's columns, row by row: every given row is
-- among the final rows; these ascend strictly and no rule gives a bound that is not among them; an answer is all ones or a concrete type; and
-- along a chain of rows it fits what is asked at the end.
use Rattle.std.specs.Prelude.{◌≡◌, Bool, cond, ◌⊎◌, ℕ, ◌+◌, ◌-◌, ◌^◌, ◌≤◌, ◌<◌, length, take, drop}
use Rattle.std.proofs.Math.Path.{refl, sym, ap, subst}
use Rattle.std.proofs.Common.{◌∙◌, ⊎_elim}
use Rattle.std.proofs.Math.Bool.{true, false}
use mathlib.Core.List.{List, map, Memᴰ}
use Rattle.std.proofs.Math.Logic.{inl, inr}
use Rattle.std.proofs.Math.Option.{Option, some, none}
use native.Mathlib.Omega.{arith}
use Rattle.std.proofs.Math.Dec.{eqb}
use Rattle.std.proofs.lemmas.List.{length-map}
use Rattle.std.proofs.Math.ListN.{get_or, get_or-append}
use Rattle.std.proofs.Math.Seq.{drop-append_seam}
use borrow.Author.Tests.{eqb-true}
use Rattle.order.specs.Truth.{both}
use Rattle.ty.specs.Types.{ArgType, is_concrete}
use Rattle.ty.specs.Words.{legal_word, type_of, word_of}
use Rattle.ty.specs.Round.{type-of-word, legal-of-type, word-of-type}
use Rattle.lattice.specs.Lattice.{World}
use Rattle.rows.specs.Rows.{filled}
use Rattle.rows.specs.Keys.{take-filled}
use Rattle.columns.specs.Given.{Given}
use Rattle.tableview.specs.TableRows.{rows_world}
use Rattle.stackview.specs.LayerRows.{shown_in}
use Rattle.solving.specs.declared.Counts.{Counts}
use Rattle.solving.specs.Ordered.{Ascending}
use Rattle.solving.proofs.Runs.{propagate-stops}
use Rattle.solving.specs.Closed.{Closed}
use Rattle.solving.specs.Tidy.{LegalBound}
use Rattle.solving.specs.Ways.{Fitting}
use Rattle.solving.specs.Chains.{Demand}
use Rattle.solving.proofs.Solve.{solve-keeps, solve-ascending, solve-fits, solve-turns, solve-closed, solve-answers, solve-concrete, solve-chain, solve-legal, checked-within}
use Rattle.solving.specs.Solving.{Upper, Exact, Bound, bound, Table, compare_bounds, state_of, Finish, Stopped, Ended, propagate, resolve_state, Problem, links_of, table_of, Solution, Unsolved, Solved, solution, solve}
use Rattle.problems.specs.Problems.{Columns, even_problem}
use Rattle.problems.specs.Held.{Words}
use Rattle.problems.specs.Plain.{bounds_of, plain_problem}
use Rattle.answering.specs.Answering.{answer_word}
use Rattle.solves.specs.SolveResult.{Lent, counts_of, answers_after, components_after, kinds_after, types_after}
use Rattle.solvedoor.specs.SolveDoor.{problem_over, solve_refusal, solve_in, SolvesIn}
use Rattle.solvelaws.specs.Plainly.{opened, solve-plain, rows-lawful, names-few, rows-checked, rows-allowed}
use Rattle.answerlaws.specs.Legal.{answer-legal, state-legal}
use Rattle.solvelaws.specs.RowNumbers.{RowChain, bound-at, chain-of, rows-legal, map-at, member-at, at-member, table-listed}

-- the world of the table's rows
abbrev pub world_in : Given → World
world_in g = rows_world (shown_in g)

-- the final rows: as many as were counted, of the three columns
abbrev pub final_rows : Counts → Lent → List Bound
final_rows r l = bounds_of (take r.bounds l.components) (take r.bounds l.kinds) (take r.bounds l.types)

-- the bounds given, each once
abbrev pub given_bounds : Columns → ℕ
given_bounds c = length (table_of (plain_problem c))

pub record Gives (g : Given) (c : Columns) (before after : Lent) (r : Counts) : Type 0 where
  -- EVERY GIVEN ROW IS AMONG THE FINAL ROWS, number by number
  pub keeps : (i : ℕ) → i < length c.bound_components
      → (j : ℕ) × (j < r.bounds) × (get_or after.components j 0 ≡ get_or c.bound_components i 0) × (get_or after.kinds j 0 ≡ get_or c.bound_kinds i 0) × (get_or after.types j 0 ≡ get_or c.bound_words i 0)
  -- at most 4,096, strictly ascending by component, kind, type
  pub few : r.bounds ≤ 4096
  pub ascends : Ascending compare_bounds (final_rows r after)
  -- each of a component of the problem, a kind, and a type over the names
  pub legal : (j : ℕ) → j < r.bounds
      → (get_or after.components j 0 < c.components) × (get_or after.kinds j 0 < 5) × (legal_word (world_in g).names (get_or after.types j 0) ≡ true)
  -- NO RULE GIVES A BOUND THAT IS NOT AMONG THEM
  pub closed : Closed (world_in g) (links_of (plain_problem c)) c.components (final_rows r after)
  -- a variable's answer is that of its component's final rows
  pub answers : (i : ℕ) → i < length c.variables → get_or after.answers i 0 ≡ answer_word (resolve_state (world_in g) (state_of (final_rows r after) (get_or c.variables i 0)))
  -- IT IS ALL ONES OR THE WORD OF A CONCRETE TYPE over the names
  pub concrete : (i : ℕ) → i < length c.variables
      → (get_or after.answers i 0 ≡ 2 ^ 64 - 1) ⊎ ((legal_word (world_in g).names (get_or after.answers i 0) ≡ true) × (is_concrete (type_of (get_or after.answers i 0)) ≡ true))
  -- WHERE ROWS OF FLOWS AND UPPER FLOWS LEAD, one or more, from its component to that of an upper or exact final row, it is assignable to
  -- that row's type, or both are references
  pub chain : (i : ℕ) → i < length c.variables → (get_or after.answers i 0 ≡ 2 ^ 64 - 1 → ⊥)
      → (j : ℕ) → j < r.bounds → (get_or after.kinds j 0 ≡ Upper) ⊎ (get_or after.kinds j 0 ≡ Exact)
      → RowChain c (get_or c.variables i 0) (get_or after.components j 0) → Fitting (world_in g) (type_of (get_or after.answers i 0)) (type_of (get_or after.types j 0))
  -- TURNS ARE AT MOST COMPONENTS PLUS BOUNDS ADDED
  pub turns : (given_bounds c ≤ r.bounds) × (r.turns ≤ c.components + (r.bounds - given_bounds c))
  -- behind the answers and the final rows the slices are as they came
  pub rest : (drop (length c.variables) after.answers ≡ drop (length c.variables) before.answers)
      × (drop r.bounds after.components ≡ drop r.bounds before.components)
      × (drop r.bounds after.kinds ≡ drop r.bounds before.kinds)
      × (drop r.bounds after.types ≡ drop r.bounds before.types)

-- ---- a refusal of 0 is a run that ended

module _ (g : Given) (c : Columns) (l : Lent) where
  pub none-refused : (counts_of (solve_in g c l)).refusal ≡ 0 → solve_refusal g c l ≡ 0
  unfolding solve_in counts_of
  none-refused h = go (eqb (solve_refusal g c l) 0) refl h
    where
      go : (b : Bool) → eqb (solve_refusal g c l) 0 ≡ b → (counts_of (cond b (solve (world_in g) (problem_over g c).problem) (Unsolved (solve_refusal g c l)))).refusal ≡ 0 → solve_refusal g c l ≡ 0
      go true e q = eqb-true (solve_refusal g c l) 0 e
      go false e q = q

-- the run that stopped
pub solve-stopped : (w : World) (p : Problem) (k : ℕ) → solve w p ≡ Unsolved k → propagate w (links_of p) p.components (table_of p) ≡ Stopped k
unfolding solve
solve-stopped w p k h = go (propagate w (links_of p) p.components (table_of p)) h
  where
    go : (f : Finish) → solution w p.variables f ≡ Unsolved k → f ≡ Stopped k
    go (Stopped j) e = ap Stopped (let q : j ≡ k = cc in q)
    go (Ended t q n) e = absurd (let z : ◌≡◌ {A = ℕ} 0 1 = cc in omega arith)

-- what came of it
record Came (g : Given) (c : Columns) (before after : Lent) (r : Counts) : Type 0 where
  checked : solve_refusal g c before ≡ 0
  table : Table
  turns : ℕ
  found : List (Option ArgType)
  solved : solve (world_in g) (plain_problem c) ≡ Solved table turns found
  bounds-are : r.bounds ≡ length table
  turns-are : r.turns ≡ turns
  answers-are : after.answers ≡ filled (map answer_word found) before.answers
  components-are : after.components ≡ filled (map (λ b. b.component) table) before.components
  kinds-are : after.kinds ≡ filled (map (λ b. b.kind) table) before.kinds
  types-are : after.types ≡ filled (map (λ b. word_of b.type) table) before.types

came : (g : Given) (c : Columns) (before after : Lent) (r : Counts) → SolvesIn g c before after r → r.refusal ≡ 0 → Came g c before after r
unfolding counts_of answers_after components_after kinds_after types_after
came g c before after r s h = go (solve_in g c before) refl s.counts s.memory.answers s.memory.components s.memory.kinds s.memory.types
  where
    z : solve_refusal g c before ≡ 0
    z = none-refused g c before (sym (ap (λ (x : Counts). x.refusal) s.counts) ∙ h)

    go : (o : Solution) → solve_in g c before ≡ o → r ≡ counts_of o → after.answers ≡ answers_after o before.answers → after.components ≡ components_after o before.components
        → after.kinds ≡ kinds_after o before.kinds → after.types ≡ types_after o before.types → Came g c before after r
    go (Unsolved k) e n a x y t =
        let q : k ≡ 0 = sym (ap (λ (m : Counts). m.refusal) n) ∙ h in
        absurd (⊎_elim (λ u. omega arith) (λ u. omega arith)
        (propagate-stops (world_in g) (links_of (plain_problem c)) (plain_problem c).components (table_of (plain_problem c)) k
        (solve-stopped (world_in g) (plain_problem c) k (sym (solve-plain g c before z) ∙ e))))
    go (Solved table turns found) e n a x y t = record {
      checked = z;
      table = table;
      turns = turns;
      found = found;
      solved = sym (solve-plain g c before z) ∙ e;
      bounds-are = ap (λ (m : Counts). m.bounds) n;
      turns-are = ap (λ (m : Counts). m.turns) n;
      answers-are = a;
      components-are = x;
      kinds-are = y;
      types-are = t;
    }

-- ---- what it says

-- the equal lengths of columns
pub record Equal (c : Columns) : Type 0 where
  pub kinds : length c.bound_components ≡ length c.bound_kinds
  pub words : length c.bound_components ≡ length c.bound_words
  pub flows : length c.flow_sources ≡ length c.flow_targets
  pub uppers : length c.upper_sources ≡ length c.upper_targets
  pub reads : length c.read_arrays ≡ length c.read_results
  pub writes : length c.write_arrays ≡ length c.write_values

pub equal-lengths : (c : Columns) → even_problem c ≡ true → Equal c
unfolding even_problem
equal-lengths c h =
    let p = both _ _ h in
    let q = both _ _ p.0 in
    let f = both _ _ p.1 in
    let u = both _ _ f.1 in
    let a = both _ _ u.1 in
    record {
      kinds = eqb-true _ _ q.0;
      words = eqb-true _ _ q.1;
      flows = eqb-true _ _ f.0;
      uppers = eqb-true _ _ u.0;
      reads = eqb-true _ _ a.0;
      writes = eqb-true _ _ a.1;
    }

module _ (g : Given) (c : Columns) (before after : Lent) (r : Counts) (fit : Words c.bound_words) (y : Came g c before after r) where
  abbrev w : World
  w = world_in g

  abbrev p : Problem
  p = plain_problem c

  wide : w.names ≤ 2 ^ 48
  wide = let n = names-few g c before y.checked in omega arith

  legal-bound : (b : Bound) → Memᴰ b y.table → LegalBound w.names p.components b
  legal-bound = solve-legal w p y.table y.turns y.found y.solved (rows-lawful g c before y.checked) (rows-checked g c before y.checked fit)

  type-back : (b : Bound) → Memᴰ b y.table → type_of (word_of b.type) ≡ b.type
  type-back b m = type-of-word w.names b.type wide (legal-bound b m).type

  equal : Equal c
  equal = equal-lengths c (opened g c before y.checked).rows

  -- a column's front
  column-front : (f : Bound → ℕ) (old new : List ℕ) → new ≡ filled (map f y.table) old → take r.bounds new ≡ map f y.table
  column-front f old new e = ap (take r.bounds) e ∙ take-filled (map f y.table) old r.bounds (y.bounds-are ∙ sym (length-map y.table f))

  -- THE FINAL ROWS ARE THE TABLE
  rows-are : final_rows r after ≡ y.table
  rows-are =
      let a = column-front (λ b. b.component) before.components after.components y.components-are in
      let b = column-front (λ b. b.kind) before.kinds after.kinds y.kinds-are in
      let d = column-front (λ b. word_of b.type) before.types after.types y.types-are in
      (λ i. bounds_of (a i) (b i) (d i)) ∙ table-listed y.table type-back

  -- an entry of a column
  entry : (f : Bound → ℕ) (old new : List ℕ) → new ≡ filled (map f y.table) old → (j : ℕ) → j < length y.table → get_or new j 0 ≡ get_or (map f y.table) j 0
  entry f old new e j h =
      let n = length-map y.table f in
      ap (λ (l : List ℕ). get_or l j 0) e ∙ get_or-append (map f y.table) (drop (length (map f y.table)) old) 0 j (omega arith)

  component-at : (j : ℕ) → j < length y.table → get_or after.components j 0 ≡ get_or (map (λ b. b.component) y.table) j 0
  component-at = entry (λ b. b.component) before.components after.components y.components-are

  kind-at : (j : ℕ) → j < length y.table → get_or after.kinds j 0 ≡ get_or (map (λ b. b.kind) y.table) j 0
  kind-at = entry (λ b. b.kind) before.kinds after.kinds y.kinds-are

  type-at : (j : ℕ) → j < length y.table → get_or after.types j 0 ≡ get_or (map (λ b. word_of b.type) y.table) j 0
  type-at = entry (λ b. word_of b.type) before.types after.types y.types-are

  within : (j : ℕ) → j < r.bounds → j < length y.table
  within j h = let e = y.bounds-are in omega arith

  keeps-row : (i : ℕ) → i < length c.bound_components
      → (j : ℕ) × (j < r.bounds) × (get_or after.components j 0 ≡ get_or c.bound_components i 0) × (get_or after.kinds j 0 ≡ get_or c.bound_kinds i 0) × (get_or after.types j 0 ≡ get_or c.bound_words i 0)
  unfolding plain_problem
  keeps-row i h =
      let b = bound (get_or c.bound_components i 0) (get_or c.bound_kinds i 0) (type_of (get_or c.bound_words i 0)) in
      let m = solve-keeps w p y.table y.turns y.found y.solved b (bound-at c.bound_components c.bound_kinds c.bound_words equal.kinds equal.words i h) in
      let q = member-at b y.table m in
      let n = q.1 in
      let e = y.bounds-are in
      let legal = rows-legal w.names c.components c (rows-allowed g c before y.checked fit).ranges equal.kinds equal.words i h in (
        q.0,
        omega arith,
        component-at q.0 n ∙ q.2 (λ x. x.component),
        kind-at q.0 n ∙ q.2 (λ x. x.kind),
        type-at q.0 n ∙ q.2 (λ x. word_of x.type) ∙ word-of-type w.names (get_or c.bound_words i 0) legal,
      )

  legal-row : (j : ℕ) → j < r.bounds → (get_or after.components j 0 < c.components) × (get_or after.kinds j 0 < 5) × (legal_word w.names (get_or after.types j 0) ≡ true)
  unfolding plain_problem
  legal-row j h =
      let n = within j h in
      let q = at-member y.table j n in
      let b = legal-bound q.0 q.1 in (
        subst (λ (x : ℕ). x < c.components) (sym (component-at j n ∙ q.2 (λ x. x.component))) b.component,
        subst (λ (x : ℕ). x < 5) (sym (kind-at j n ∙ q.2 (λ x. x.kind))) b.kind,
        ap (legal_word w.names) (type-at j n ∙ q.2 (λ x. word_of x.type)) ∙ legal-of-type w.names q.0.type wide b.type,
      )

  -- an answer's word
  found-length : length y.found ≡ length c.variables
  unfolding plain_problem
  found-length = (solve-answers w p y.table y.turns y.found y.solved).0

  found-is : (i : ℕ) → i < length c.variables → get_or y.found i none ≡ resolve_state w (state_of y.table (get_or c.variables i 0))
  unfolding plain_problem
  found-is = (solve-answers w p y.table y.turns y.found y.solved).1

  word-is : (i : ℕ) → i < length c.variables → get_or after.answers i 0 ≡ answer_word (get_or y.found i none)
  word-is i h =
      let n = found-length in
      let m = length-map y.found answer_word in
      ap (λ (l : List ℕ). get_or l i 0) y.answers-are
      ∙ get_or-append (map answer_word y.found) (drop (length (map answer_word y.found)) before.answers) 0 i (omega arith)
      ∙ map-at answer_word none y.found i (omega arith)

  found-legal : (i : ℕ) → i < length c.variables → (v : ArgType) → get_or y.found i none ≡ some v → (type_of (word_of v) ≡ v) × (legal_word w.names (word_of v) ≡ true)
  found-legal i h v e =
      let good = rows-lawful g c before y.checked in
      let k = answer-legal w good (state_of y.table (get_or c.variables i 0)) (state-legal w good p.components y.table legal-bound (get_or c.variables i 0)) v (sym (found-is i h) ∙ e) in
      (type-of-word w.names v wide k, legal-of-type w.names v wide k)

  concrete-word : (i : ℕ) → i < length c.variables
      → (get_or after.answers i 0 ≡ 2 ^ 64 - 1) ⊎ ((legal_word w.names (get_or after.answers i 0) ≡ true) × (is_concrete (type_of (get_or after.answers i 0)) ≡ true))
  unfolding plain_problem
  concrete-word i h = go (get_or y.found i none) refl
    where
      go : (o : Option ArgType) → get_or y.found i none ≡ o
          → (get_or after.answers i 0 ≡ 2 ^ 64 - 1) ⊎ ((legal_word w.names (get_or after.answers i 0) ≡ true) × (is_concrete (type_of (get_or after.answers i 0)) ≡ true))
      go none e = inl (word-is i h ∙ ap answer_word e)
      go (some v) e =
          let k = found-legal i h v e in
          let q : get_or after.answers i 0 ≡ word_of v = word-is i h ∙ ap answer_word e in
          inr (ap (legal_word w.names) q ∙ k.1, ap (λ (x : ℕ). is_concrete (type_of x)) q ∙ ap is_concrete k.0 ∙ solve-concrete w p y.table y.turns y.found y.solved i h v e)

  chain-fits : (i : ℕ) → i < length c.variables → (get_or after.answers i 0 ≡ 2 ^ 64 - 1 → ⊥)
      → (j : ℕ) → j < r.bounds → (get_or after.kinds j 0 ≡ Upper) ⊎ (get_or after.kinds j 0 ≡ Exact)
      → RowChain c (get_or c.variables i 0) (get_or after.components j 0) → Fitting w (type_of (get_or after.answers i 0)) (type_of (get_or after.types j 0))
  unfolding plain_problem
  chain-fits i h there j k kind way = go (get_or y.found i none) refl
    where
      q : (b : Bound) × Memᴰ b y.table × ((f : Bound → ℕ) → get_or (map f y.table) j 0 ≡ f b)
      q = at-member y.table j (within j k)

      u : ArgType
      u = q.0.type

      d : ℕ
      d = get_or after.components j 0

      here : d ≡ q.0.component
      here = component-at j (within j k) ∙ q.2 (λ x. x.component)

      its-kind : get_or after.kinds j 0 ≡ q.0.kind
      its-kind = kind-at j (within j k) ∙ q.2 (λ x. x.kind)

      its-type : type_of (get_or after.types j 0) ≡ u
      its-type = ap type_of (type-at j (within j k) ∙ q.2 (λ x. word_of x.type)) ∙ type-back q.0 q.1

      asked : Demand y.table d u
      asked =
          ⊎_elim
          (λ e. inl (subst (λ (b : Bound). Memᴰ b y.table) (λ x. record { component = sym here x; kind = (sym its-kind ∙ e) x; type = u }) q.1))
          (λ e. inr (subst (λ (b : Bound). Memᴰ b y.table) (λ x. record { component = sym here x; kind = (sym its-kind ∙ e) x; type = u }) q.1))
          kind

      go : (o : Option ArgType) → get_or y.found i none ≡ o → Fitting w (type_of (get_or after.answers i 0)) (type_of (get_or after.types j 0))
      go none e = absurd (there (word-is i h ∙ ap answer_word e))
      go (some v) e =
          let its : type_of (get_or after.answers i 0) ≡ v = ap type_of (word-is i h ∙ ap answer_word e) ∙ (found-legal i h v e).0 in
          subst (λ (x : ArgType). Fitting w x (type_of (get_or after.types j 0))) (sym its)
          (subst (λ (x : ArgType). Fitting w v x) (sym its-type)
          (solve-chain w p y.table y.turns y.found y.solved (checked-within w.names p (rows-checked g c before y.checked fit)) i h v e d u
          (chain-of c equal.flows equal.uppers way) asked))

  rest-of : (l old new : List ℕ) (n : ℕ) → n ≡ length l → new ≡ filled l old → drop n new ≡ drop n old
  rest-of l old new n e f = rw (f, e) (drop-append_seam l (drop (length l) old))

  gives : Gives g c before after r
  unfolding plain_problem
  gives = record {
    keeps = keeps-row;
    few = (let e = y.bounds-are in let k = solve-fits w p y.table y.turns y.found y.solved (rows-checked g c before y.checked fit).few in omega arith);
    ascends = subst (Ascending compare_bounds) (sym rows-are) (solve-ascending w p y.table y.turns y.found y.solved);
    legal = legal-row;
    closed = subst (Closed w (links_of p) p.components) (sym rows-are) (solve-closed w p y.table y.turns y.found y.solved);
    answers = λ i h. word-is i h ∙ ap answer_word (found-is i h) ∙ ap (λ (t : Table). answer_word (resolve_state w (state_of t (get_or c.variables i 0)))) (sym rows-are);
    concrete = concrete-word;
    chain = chain-fits;
    turns =
        let k = solve-turns w p y.table y.turns y.found y.solved in
        let e = y.bounds-are in
        let f = y.turns-are in
        let a = k.0 in
        let b = k.1 in
        (omega arith, omega arith);
    rest = (
      rest-of (map answer_word y.found) before.answers after.answers (length c.variables) (sym (length-map y.found answer_word ∙ found-length)) y.answers-are,
      rest-of (map (λ b. b.component) y.table) before.components after.components r.bounds (y.bounds-are ∙ sym (length-map y.table (λ b. b.component))) y.components-are,
      rest-of (map (λ b. b.kind) y.table) before.kinds after.kinds r.bounds (y.bounds-are ∙ sym (length-map y.table (λ b. b.kind))) y.kinds-are,
      rest-of (map (λ b. word_of b.type) y.table) before.types after.types r.bounds (y.bounds-are ∙ sym (length-map y.table (λ b. word_of b.type))) y.types-are,
    );
  }

-- A SOLVE THAT IS NOT REFUSED; a bound's word has 64 bits
pub solve-gives : (g : Given) (c : Columns) (before after : Lent) (r : Counts) → Words c.bound_words → SolvesIn g c before after r → r.refusal ≡ 0 → Gives g c before after r
solve-gives g c before after r fit s h = gives g c before after r fit (came g c before after r s h)
