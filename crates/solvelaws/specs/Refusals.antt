-- WHEN A SOLVE OVER SLICES IS REFUSED, WITH WHICH NUMBER, AND WHAT IT THEN LEAVES: the first check of its list that holds, else what the run
-- stops with; 22 exactly if a slice is too short, 20 and 21 exactly if no check holds and the run stops with them; in the domain no other.
use Rattle.std.specs.Prelude.{◌≡◌, refl, Bool, not, ◌&&◌, ◌||◌, ◌⊎◌, ◌↔◌, eqb, ltb, take, drop, replicate}
use Rattle.std.proofs.Common.{sym, ◌∙◌, inl, inr, ⊎_elim, eq-eqb, ne_eqb, lt-ltb, ltb-true}
use Rattle.std.proofs.Math.Path.{ap}
use Rattle.std.proofs.Math.Bool.{true, false, cond}
use Rattle.std.proofs.lemmas.Bool.{false≢true}
use mathlib.Core.List.{List, [], ◌∷◌, ◌++◌}
use Prim.Native.Nat.{ℕ, zero, suc, ◌+◌, ◌-◌, ◌^◌, ◌≤◌, ◌<◌}
use native.Mathlib.Omega.{arith}
use Rattle.std.proofs.Math.Decide.{ℕ_discrete}
use Rattle.std.proofs.Math.Dec.{leb}
use Rattle.std.proofs.Math.ListN.{length}
use Rattle.order.specs.Compare.{compare_lists, is_less}
use Rattle.utf8.specs.Utf8.{well_formed}
use Rattle.checks.specs.Checks.{check, first_refusal, or_else, else-none, else-some, FirstOf, first-of}
use Rattle.names.specs.Names.{place_good, name_of, name_checks, check_row, check_rows}
use Rattle.rows.specs.Rows.{good_flags, all_below}
use Rattle.columns.specs.Columns.{inside}
use Rattle.columns.specs.Given.{Given, even}
use Rattle.tableview.specs.TableRows.{names_of, rows_view, rows_world, rows_in}
use Rattle.stackview.specs.LayerRows.{shown_in}
use Rattle.tableview.specs.RowRefusals.{Pair, listed, different, row_checks as record_checks}
use Rattle.layercolumns.specs.LayerColumns.{open_flags}
use Rattle.stackview.specs.LayerRefusals.{open_checks, layer_row_refusal, under_after, pairs_after, layers_refusal, stack_refusal_of}
use Rattle.tableview.specs.Domain.{Aligned}
use Rattle.tableview.specs.Domain.{Placed}
use Rattle.tableview.proofs.Domain.{even-exactly}
use Rattle.stackview.specs.Domain.{LayersInDomain}
use Rattle.stackview.proofs.Domain.{stack-exactly, shown-object}
use Rattle.stackview.proofs.Shown.{stack-refused}
use Rattle.ty.specs.Words.{legal_word, type_of}
use Rattle.solving.specs.declared.Counts.{Counts}
use Rattle.solving.specs.Ordered.{insert}
use Rattle.solving.proofs.Runs.{propagate-stops}
use Rattle.solving.specs.Solving.{bound, compare_bounds, compare_pairs, Finish, Stopped, Ended, propagate, Problem, links_of, table_of, Solution, Unsolved, Solved, solution, solve}
use Rattle.problems.specs.Problems.{ProblemRow, counted, variable, bounded, flow, upper_flow, reading, writing, no_problem, with_row, among, row_checks, row_refusal, problem_row, problem_rows, Columns, even_problem, problem_in, problem}
use Rattle.problems.specs.Held.{Words}
use Rattle.problems.specs.Plain.{plain_problem}
use Rattle.problems.specs.Exact.{Allowed}
use Rattle.problems.proofs.Exact.{allowed-taken, taken-allowed}
use Rattle.solver.specs.Solver as solver
use Rattle.solves.specs.SolveResult.{Lent, counts_of, answers_after, components_after, kinds_after, types_after}
use Rattle.solvedoor.specs.SolveDoor.{too_short, problem_over, solve_checks, solve_refusal, solve_in, solve_work, SolvesIn}
use Rattle.solvelaws.specs.Plainly.{opened, solve-plain}
use Rattle.solvelaws.specs.Gives.{Equal, equal-lengths}

-- the run of the rows as they stand, over the world of the table's rows
abbrev pub run_in : Given → Columns → Finish
run_in g c = propagate (rows_world (shown_in g)) (links_of (plain_problem c)) c.components (table_of (plain_problem c))

-- what a run stops with: 20 or 21, or 0 where it ends
abbrev pub run_refusal : Finish → ℕ
run_refusal (Stopped k) = k
run_refusal (Ended table queue turns) = 0

-- ---- rows are refused with numbers up to 10

up-to : (m k r : ℕ) → k ≤ m → r ≤ m → or_else k r ≤ m
up-to m zero r a b = b
up-to m (suc k) r a b = a

name-most : (bytes : List ℕ) (at len : ℕ) (last : List ℕ) (count total : ℕ) → check_row bytes at len last count total ≤ 10
unfolding check_row name_checks first_refusal
name-most bytes at len last count total =
    let name = name_of bytes at len in
    go (not (place_good (length bytes) at len)) (eqb (length name) 0 || ltb 255 (length name)) (not (well_formed name)) (ltb 0 count && not (is_less (compare_lists last name)))
    (leb 1024 count || ltb 24576 (total + length name))
  where
    go : (p a b c d : Bool) → cond {A = ℕ} p 3 (cond a 3 (cond b 10 (cond c 5 (cond d 8 0)))) ≤ 10
    go true a b c d = omega arith
    go false true b c d = omega arith
    go false false true c d = omega arith
    go false false false true d = omega arith
    go false false false false true = omega arith
    go false false false false false = omega arith

record-most : (names : ℕ) (is-inside : Bool) (flags class : ℕ) (parents : List ℕ) (before : List Pair) → first_refusal (record_checks names is-inside flags class parents before) ≤ 10
unfolding record_checks first_refusal
record-most names is-inside flags class parents before =
    go (not is-inside) (ltb 254 (length parents)) (not (good_flags flags && (ltb class names && all_below names parents))) (ltb 4096 (different (listed class parents ++ before)))
  where
    go : (p a b c : Bool) → cond {A = ℕ} p 3 (cond a 3 (cond b 6 (cond c 8 0))) ≤ 10
    go true a b c = omega arith
    go false true b c = omega arith
    go false false true c = omega arith
    go false false false true = omega arith
    go false false false false = omega arith

open-most : (under : ℕ) (is-inside : Bool) (class len : ℕ) → first_refusal (open_checks under is-inside class len) ≤ 10
unfolding open_checks first_refusal
open-most under is-inside class len = go (not is-inside) (not (eqb class 0 && eqb len 0)) (leb 3 under)
  where
    go : (p a b : Bool) → cond {A = ℕ} p 3 (cond a 3 (cond b 8 0)) ≤ 10
    go true a b = omega arith
    go false true b = omega arith
    go false false true = omega arith
    go false false false = omega arith

layer-row-most : (names : ℕ) (parents : List ℕ) (under : ℕ) (before : List Pair) (f c a l : ℕ) → layer_row_refusal names parents under before f c a l ≤ 10
unfolding layer_row_refusal
layer-row-most names parents under before f c a l = go (eqb f open_flags)
  where
    go : (o : Bool) → cond o (first_refusal (open_checks under (inside (length parents) a l) c l)) (first_refusal (record_checks names (inside (length parents) a l) f c (take l (drop a parents)) before)) ≤ 10
    go true = open-most under (inside (length parents) a l) c l
    go false = record-most names (inside (length parents) a l) f c (take l (drop a parents)) before

names-most : (bytes ats lens last : List ℕ) (count total : ℕ) → check_rows bytes ats lens last count total ≤ 10
unfolding check_rows
names-most bytes [] lens last count total = omega arith
names-most bytes (at ∷ ats) [] last count total = omega arith
names-most bytes (at ∷ ats) (len ∷ lens) last count total =
    up-to 10 (check_row bytes at len last count total) (check_rows bytes ats lens (name_of bytes at len) (suc count) (total + len)) (name-most bytes at len last count total)
    (names-most bytes ats lens (name_of bytes at len) (suc count) (total + len))

records-most : (names : ℕ) (parents fs cs ats ls : List ℕ) (under : ℕ) (before : List Pair) → layers_refusal names parents fs cs ats ls under before ≤ 10
unfolding layers_refusal
records-most names parents [] cs ats ls under before = omega arith
records-most names parents (f ∷ fs) [] ats ls under before = omega arith
records-most names parents (f ∷ fs) (c ∷ cs) [] ls under before = omega arith
records-most names parents (f ∷ fs) (c ∷ cs) (a ∷ ats) [] under before = omega arith
records-most names parents (f ∷ fs) (c ∷ cs) (a ∷ ats) (l ∷ ls) under before =
    let more = pairs_after f c (take l (drop a parents)) before in
    up-to 10 (layer_row_refusal names parents under before f c a l) (layers_refusal names parents fs cs ats ls (under_after f under) more)
    (layer-row-most names parents under before f c a l) (records-most names parents fs cs ats ls (under_after f under) more)

table-most : (g : Given) → stack_refusal_of g ≤ 10
unfolding stack_refusal_of
table-most g =
    let names = length (names_of g.names g.name_at g.name_len) in
    up-to 10 (check_rows g.names g.name_at g.name_len [] 0 0) (layers_refusal names g.parents g.rec_flags g.rec_class g.rec_at g.rec_len 0 [])
    (names-most g.names g.name_at g.name_len [] 0 0) (records-most names g.parents g.rec_flags g.rec_class g.rec_at g.rec_len 0 [])

-- a row of a problem
module _ (names : ℕ) where
  one-most : (a : Bool) → first_refusal (check a 8 ∷ []) ≤ 10
  unfolding first_refusal
  one-most true = omega arith
  one-most false = omega arith

  three-most : (a b d : Bool) → first_refusal (check a 6 ∷ check b 7 ∷ check d 8 ∷ []) ≤ 10
  unfolding first_refusal
  three-most true b d = omega arith
  three-most false true d = omega arith
  three-most false false true = omega arith
  three-most false false false = omega arith

  two-most : (a b : Bool) → first_refusal (check a 6 ∷ check b 8 ∷ []) ≤ 10
  unfolding first_refusal
  two-most true b = omega arith
  two-most false true = omega arith
  two-most false false = omega arith

  row-most : (r : ProblemRow) (p : Problem) → row_refusal names r p ≤ 10
  unfolding row_refusal row_checks
  row-most (counted n) p = one-most (ltb 512 n)
  row-most (variable c) p = two-most (not (ltb c p.components)) (leb 2048 (length p.variables))
  row-most (bounded c k w) p =
      three-most (not (ltb c p.components && leb k 4)) (not (legal_word names w)) (ltb 4096 (length (insert compare_bounds (bound c k (type_of w)) p.bounds)))
  row-most (flow a b) p = two-most (not (among p a b)) (ltb 2048 (length (insert compare_pairs (a, b) p.flows)))
  row-most (upper_flow a b) p = two-most (not (among p a b)) (ltb 1024 (length (insert compare_pairs (a, b) p.upper_flows)))
  row-most (reading a b) p = two-most (not (among p a b)) (ltb 1024 (length (insert compare_pairs (a, b) p.reads) + length p.writes))
  row-most (writing a b) p = two-most (not (among p a b)) (ltb 1024 (length p.reads + length (insert compare_pairs (a, b) p.writes)))

  rows-most : (rs : List ProblemRow) (p : Problem) → (problem_rows names rs p).refusal ≤ 10
  unfolding problem_rows problem_row
  rows-most [] p = omega arith
  rows-most (r ∷ rs) p = go (eqb (row_refusal names r p) 0) (rows-most rs (with_row r p))
    where
      go : (b : Bool) → (problem_rows names rs (with_row r p)).refusal ≤ 10
          → (cond b (problem_rows names rs (cond b (with_row r p) p)) (record { refusal = row_refusal names r p; problem = cond b (with_row r p) p })).refusal ≤ 10
      go true h = h
      go false h = row-most r p

problem-most : (g : Given) (c : Columns) → (problem_over g c).refusal ≤ 10
unfolding problem_over problem
problem-most g c = rows-most (rows_view (shown_in g)).names (problem_in c) no_problem

-- so are the checks after the first
checks-most : (g : Given) (c : Columns) → first_refusal (solve_checks g c) ≤ 10
unfolding solve_checks first_refusal
checks-most g c =
    let a = table-most g in
    let b = problem-most g c in
    go (not (even g)) (not (even_problem c)) (not (eqb (stack_refusal_of g) 0)) (not (eqb (problem_over g c).refusal 0)) (eqb (rows_view (shown_in g)).object (2 ^ 64 - 1)) a b
  where
    go : (p q x y z : Bool) → stack_refusal_of g ≤ 10 → (problem_over g c).refusal ≤ 10
        → cond p 3 (cond q 3 (cond x (stack_refusal_of g) (cond y (problem_over g c).refusal (cond z 9 0)))) ≤ 10
    go true q x y z a b = omega arith
    go false true x y z a b = omega arith
    go false false true y z a b = a
    go false false false true z a b = b
    go false false false false true a b = omega arith
    go false false false false false a b = omega arith

-- ---- SLICES THAT ARE TOO SHORT

-- an answer a variable, 4,096 entries a column, 8,192 words of work: one is not there
abbrev pub Short : Columns → Lent → Type 0
Short c l =
    (length l.answers < length c.variables)
    ⊎ ((length l.components < 4096) ⊎ ((length l.kinds < 4096) ⊎ ((length l.types < 4096) ⊎ (length l.work < 8192))))

pub short-exactly : (c : Columns) (l : Lent) → (too_short c l ≡ true) ↔ Short c l
unfolding too_short
short-exactly c l = (
  λ h. to (ltb (length l.answers) (length c.variables)) refl (ltb (length l.components) 4096) refl (ltb (length l.kinds) 4096) refl (ltb (length l.types) 4096) refl (ltb (length l.work) 8192) refl h,
  λ h. back (ltb (length l.answers) (length c.variables)) (ltb (length l.components) 4096) (ltb (length l.kinds) 4096) (ltb (length l.types) 4096) (ltb (length l.work) 8192)
      (⊎_elim (λ x. inl (lt-ltb (length l.answers) (length c.variables) x))
      (⊎_elim (λ x. inr (inl (lt-ltb (length l.components) 4096 x)))
      (⊎_elim (λ x. inr (inr (inl (lt-ltb (length l.kinds) 4096 x))))
      (⊎_elim (λ x. inr (inr (inr (inl (lt-ltb (length l.types) 4096 x))))) (λ x. inr (inr (inr (inr (lt-ltb (length l.work) 8192 x)))))))) h),
)
  where
    to : (a : Bool) → ltb (length l.answers) (length c.variables) ≡ a → (b : Bool) → ltb (length l.components) 4096 ≡ b → (d : Bool) → ltb (length l.kinds) 4096 ≡ d
        → (e : Bool) → ltb (length l.types) 4096 ≡ e → (f : Bool) → ltb (length l.work) 8192 ≡ f → (a || (b || (d || (e || f)))) ≡ true → Short c l
    to true ea b eb d ed e ee f ef h = inl (ltb-true (length l.answers) (length c.variables) ea)
    to false ea true eb d ed e ee f ef h = inr (inl (ltb-true (length l.components) 4096 eb))
    to false ea false eb true ed e ee f ef h = inr (inr (inl (ltb-true (length l.kinds) 4096 ed)))
    to false ea false eb false ed true ee f ef h = inr (inr (inr (inl (ltb-true (length l.types) 4096 ee))))
    to false ea false eb false ed false ee true ef h = inr (inr (inr (inr (ltb-true (length l.work) 8192 ef))))
    to false ea false eb false ed false ee false ef h = absurd (false≢true h)

    back : (a b d e f : Bool) → (a ≡ true) ⊎ ((b ≡ true) ⊎ ((d ≡ true) ⊎ ((e ≡ true) ⊎ (f ≡ true)))) → (a || (b || (d || (e || f)))) ≡ true
    back true b d e f h = refl
    back false true d e f h = refl
    back false false true e f h = refl
    back false false false true f h = refl
    back false false false false true h = refl
    back false false false false false h = ⊎_elim (λ x. x) (⊎_elim (λ x. x) (⊎_elim (λ x. x) (⊎_elim (λ x. x) (λ x. x)))) h

-- ---- THE REFUSAL

-- what a solve counts as its refusal is what its run stops with
solve-refusal : (g : Given) (c : Columns) → (counts_of (solve (rows_world (shown_in g)) (plain_problem c))).refusal ≡ run_refusal (run_in g c)
unfolding solve counts_of plain_problem
solve-refusal g c = go (run_in g c)
  where
    go : (f : Finish) → (counts_of (solution (rows_world (shown_in g)) c.variables f)).refusal ≡ run_refusal f
    go (Stopped k) = refl
    go (Ended t q n) = refl

check-refusal : (g : Given) (c : Columns) (l : Lent) → (solve_refusal g c l ≡ 0 → ⊥) → (counts_of (solve_in g c l)).refusal ≡ solve_refusal g c l
unfolding solve_in counts_of
check-refusal g c l n = rw (ne_eqb (solve_refusal g c l) 0 n)

-- a run stops with 20 or 21
run-numbers : (g : Given) (c : Columns) → (run_refusal (run_in g c) ≡ 0) ⊎ ((run_refusal (run_in g c) ≡ 20) ⊎ (run_refusal (run_in g c) ≡ 21))
run-numbers g c = go (run_in g c) refl
  where
    go : (f : Finish) → run_in g c ≡ f → (run_refusal f ≡ 0) ⊎ ((run_refusal f ≡ 20) ⊎ (run_refusal f ≡ 21))
    go (Stopped k) e = inr (propagate-stops (rows_world (shown_in g)) (links_of (plain_problem c)) c.components (table_of (plain_problem c)) k e)
    go (Ended t q n) e = inl refl

-- the number that it stops with is not 0
pub run-exactly : (g : Given) (c : Columns) (k : ℕ) → (k ≡ 0 → ⊥) → (run_refusal (run_in g c) ≡ k) ↔ (run_in g c ≡ Stopped k)
run-exactly g c k n = (λ h. go (run_in g c) h, λ h. ap run_refusal h)
  where
    go : (f : Finish) → run_refusal f ≡ k → f ≡ Stopped k
    go (Stopped j) h = ap Stopped h
    go (Ended t q m) h = absurd (n (sym h))

-- a refused solve is its number and zeros and leaves answers and columns
kept-by : (o : Solution) (before after : Lent) (r : Counts) → r ≡ counts_of o → after.answers ≡ answers_after o before.answers → after.components ≡ components_after o before.components
    → after.kinds ≡ kinds_after o before.kinds → after.types ≡ types_after o before.types → (r.refusal ≡ 0 → ⊥)
    → (r ≡ solver.counted r.refusal 0 0) × (after.answers ≡ before.answers) × (after.components ≡ before.components) × (after.kinds ≡ before.kinds) × (after.types ≡ before.types)
unfolding counts_of answers_after components_after kinds_after types_after
kept-by (Unsolved k) before after r n a x y t h = (n ∙ ap (λ (m : ℕ). solver.counted m 0 0) (sym (ap (λ (m : Counts). m.refusal) n)), a, x, y, t)
kept-by (Solved table turns found) before after r n a x y t h = absurd (h (ap (λ (m : Counts). m.refusal) n))

work-by : (c : Columns) (l : Lent) (b : Bool) → too_short c l ≡ b → solve_work c l ≡ cond b l.work (replicate (length l.work) 0)
unfolding solve_work
work-by c l b e = ap (λ (x : Bool). cond x l.work (replicate (length l.work) 0)) e

first-22 : (g : Given) (c : Columns) (l : Lent) (b : Bool) → too_short c l ≡ b → solve_refusal g c l ≡ cond b 22 (first_refusal (solve_checks g c))
unfolding solve_refusal first_refusal
first-22 g c l b e = ap (λ (x : Bool). cond x 22 (first_refusal (solve_checks g c))) e

module _ (g : Given) (c : Columns) (before after : Lent) (r : Counts) (s : SolvesIn g c before after r) where
  -- THE FIRST CHECK OF THE LIST THAT HOLDS, ELSE WHAT THE RUN STOPS WITH
  pub refusal-is : r.refusal ≡ or_else (first_refusal (check (too_short c before) 22 ∷ solve_checks g c)) (run_refusal (run_in g c))
  unfolding solve_refusal
  refusal-is = go (ℕ_discrete (solve_refusal g c before) 0)
    where
      counted-as : r.refusal ≡ (counts_of (solve_in g c before)).refusal
      counted-as = ap (λ (x : Counts). x.refusal) s.counts

      go : Dec (solve_refusal g c before ≡ 0) → r.refusal ≡ or_else (solve_refusal g c before) (run_refusal (run_in g c))
      go (yes z) =
          counted-as ∙ ap (λ (o : Solution). (counts_of o).refusal) (solve-plain g c before z) ∙ solve-refusal g c
          ∙ sym (else-none (solve_refusal g c before) (run_refusal (run_in g c)) z)
      go (no n) = counted-as ∙ check-refusal g c before n ∙ sym (else-some (solve_refusal g c before) (run_refusal (run_in g c)) n)

  own-most : too_short c before ≡ false → solve_refusal g c before ≤ 10
  own-most e = let k = checks-most g c in let f = first-22 g c before false e in omega arith

  is-own : r.refusal ≡ or_else (solve_refusal g c before) (run_refusal (run_in g c))
  unfolding solve_refusal
  is-own = refusal-is

  -- 22 EXACTLY IF A SLICE IS TOO SHORT
  pub refused-22 : (r.refusal ≡ 22) ↔ Short c before
  refused-22 = (λ h. to (too_short c before) refl h, from)
    where
      no-22 : (k m : ℕ) → k ≤ 10 → (m ≡ 0) ⊎ ((m ≡ 20) ⊎ (m ≡ 21)) → or_else k m ≡ 22 → ⊥
      no-22 zero m a n e = ⊎_elim (λ x. omega arith) (⊎_elim (λ x. omega arith) (λ x. omega arith)) n
      no-22 (suc k) m a n e = omega arith

      to : (b : Bool) → too_short c before ≡ b → r.refusal ≡ 22 → Short c before
      to true e h = (short-exactly c before).0 e
      to false e h = absurd (no-22 (solve_refusal g c before) (run_refusal (run_in g c)) (own-most e) (run-numbers g c) (sym is-own ∙ h))

      from : Short c before → r.refusal ≡ 22
      from h =
          is-own ∙ ap (λ (k : ℕ). or_else k (run_refusal (run_in g c))) (first-22 g c before true ((short-exactly c before).1 h))

  -- 20 AND 21 EXACTLY IF NO CHECK HOLDS AND THE RUN STOPS WITH THEM
  pub refused-run : (k : ℕ) → (k ≡ 20) ⊎ (k ≡ 21) → (r.refusal ≡ k) ↔ ((solve_refusal g c before ≡ 0) × (run_in g c ≡ Stopped k))
  refused-run k d = (
    λ h.
        let z = to (too_short c before) refl (sym is-own ∙ h) in
        (z, (run-exactly g c k not-none).0 (sym (else-none (solve_refusal g c before) (run_refusal (run_in g c)) z) ∙ sym is-own ∙ h)),
    λ q. is-own ∙ else-none (solve_refusal g c before) (run_refusal (run_in g c)) q.0 ∙ (run-exactly g c k not-none).1 q.1,
  )
    where
      not-none : k ≡ 0 → ⊥
      not-none e = ⊎_elim (λ x. omega arith) (λ x. omega arith) d

      small : (n m : ℕ) → n ≤ 10 → or_else n m ≡ k → n ≡ 0
      small zero m a e = refl
      small (suc n) m a e = absurd (⊎_elim (λ x. omega arith) (λ x. omega arith) d)

      to : (b : Bool) → too_short c before ≡ b → or_else (solve_refusal g c before) (run_refusal (run_in g c)) ≡ k → solve_refusal g c before ≡ 0
      to true e h =
          absurd
          (let f = first-22 g c before true e in
          let q : 22 ≡ k = sym (ap (λ (n : ℕ). or_else n (run_refusal (run_in g c))) f) ∙ h in
          ⊎_elim (λ x. omega arith) (λ x. omega arith) d)
      to false e h = small (solve_refusal g c before) (run_refusal (run_in g c)) (own-most e) h

  -- ANY OTHER NUMBER EXACTLY IF IT IS THAT OF THE FIRST CHECK THAT HOLDS
  pub refused-first : (k : ℕ) → (k ≡ 0 → ⊥) → (k ≡ 20 → ⊥) → (k ≡ 21 → ⊥) → (r.refusal ≡ k) ↔ FirstOf (check (too_short c before) 22 ∷ solve_checks g c) k
  unfolding solve_refusal
  refused-first k n a b = (
    λ h. (first-of (check (too_short c before) 22 ∷ solve_checks g c) k n).0 (to (solve_refusal g c before) (sym is-own ∙ h)),
    λ q.
        let e = (first-of (check (too_short c before) 22 ∷ solve_checks g c) k n).1 q in
        is-own ∙ else-some (solve_refusal g c before) (run_refusal (run_in g c)) (λ z. n (sym e ∙ z)) ∙ e,
  )
    where
      to : (m : ℕ) → or_else m (run_refusal (run_in g c)) ≡ k → m ≡ k
      to zero h = absurd (⊎_elim (λ x. n (sym h ∙ x)) (⊎_elim (λ x. a (sym h ∙ x)) (λ x. b (sym h ∙ x))) (run-numbers g c))
      to (suc m) h = h

  -- ---- WHAT A REFUSED SOLVE LEAVES

  -- its number and zeros; answers and columns as they came
  pub refused-kept : (r.refusal ≡ 0 → ⊥)
      → (r ≡ solver.counted r.refusal 0 0) × (after.answers ≡ before.answers) × (after.components ≡ before.components) × (after.kinds ≡ before.kinds) × (after.types ≡ before.types)
  refused-kept = kept-by (solve_in g c before) before after r s.counts s.memory.answers s.memory.components s.memory.kinds s.memory.types

  -- with 22 the work too is as it came
  pub work-kept : r.refusal ≡ 22 → after.work ≡ before.work
  work-kept h = s.memory.work ∙ work-by c before true ((short-exactly c before).1 (refused-22.0 h))

  -- AND WITH ANY OTHER, AND WHERE IT IS NOT REFUSED, THE WORK IS ZERO
  pub work-zero : (r.refusal ≡ 22 → ⊥) → after.work ≡ replicate (length before.work) 0
  work-zero n = s.memory.work ∙ go (too_short c before) refl
    where
      go : (b : Bool) → too_short c before ≡ b → solve_work c before ≡ replicate (length before.work) 0
      go true e = absurd (n (refused-22.1 ((short-exactly c before).0 e)))
      go false e = work-by c before false e

-- ---- THE DOMAIN

-- slices that are long enough; columns of equal length; a class table in the domain, each row inside its slice; a problem whose count, numbers,
-- words and room are those that are allowed
pub record Solvable (g : Given) (c : Columns) (l : Lent) : Type 0 where
  pub long : Short c l → ⊥
  pub aligned : Aligned g
  pub placed : Placed g
  pub rows : LayersInDomain (rows_in g)
  pub equal : Equal c
  pub allowed : Allowed (length (shown_in g).names) c

even-back : (c : Columns) → Equal c → even_problem c ≡ true
unfolding even_problem
even-back c e =
    rw (
      eq-eqb (length c.bound_components) (length c.bound_kinds) e.kinds,
      eq-eqb (length c.bound_components) (length c.bound_words) e.words,
      eq-eqb (length c.flow_sources) (length c.flow_targets) e.flows,
      eq-eqb (length c.upper_sources) (length c.upper_targets) e.uppers,
      eq-eqb (length c.read_arrays) (length c.read_results) e.reads,
      eq-eqb (length c.write_arrays) (length c.write_values) e.writes,
    )

long-enough : (c : Columns) (l : Lent) → (Short c l → ⊥) → too_short c l ≡ false
long-enough c l n = go (too_short c l) refl
  where
    go : (b : Bool) → too_short c l ≡ b → b ≡ false
    go true e = absurd (n ((short-exactly c l).0 e))
    go false e = refl

-- NO CHECK HOLDS EXACTLY IN THE DOMAIN; a bound's word has 64 bits
pub domain-exactly : (g : Given) (c : Columns) (l : Lent) → Words c.bound_words → (solve_refusal g c l ≡ 0) ↔ Solvable g c l
unfolding solve_refusal solve_checks first_refusal problem_over rows_view
domain-exactly g c l w = (
  λ h.
      let o = opened g c l h in
      let al = (even-exactly g).0 o.columns in
      let t = (stack-exactly g al).0 (stack-refused g ∙ o.table-taken) in
      record {
        long = λ q. false≢true (sym o.long ∙ (short-exactly c l).1 q);
        aligned = al;
        placed = t.0;
        rows = record { limits = t.1; object-named = (shown-object g t.1.few-names).0 o.object-there };
        equal = equal-lengths c o.rows;
        allowed = taken-allowed (length (shown_in g).names) c w o.problem-taken;
      },
  λ d. rw (
    long-enough c l d.long,
    (even-exactly g).1 d.aligned,
    even-back c d.equal,
    sym (stack-refused g) ∙ (stack-exactly g d.aligned).1 (d.placed, d.rows.limits),
    allowed-taken (length (shown_in g).names) c d.allowed,
    ne_eqb (rows_view (shown_in g)).object (2 ^ 64 - 1) ((shown-object g d.rows.limits.few-names).1 d.rows.object-named),
  ),
)

-- SO THERE NOTHING IS REFUSED BUT BY THE RUN, and it is refused exactly with what the run stops with
pub domain-taken : (g : Given) (c : Columns) (before after : Lent) (r : Counts) → Words c.bound_words → SolvesIn g c before after r → Solvable g c before
    → (r.refusal ≡ run_refusal (run_in g c)) × ((r.refusal ≡ 0) ⊎ ((r.refusal ≡ 20) ⊎ (r.refusal ≡ 21)))
domain-taken g c before after r w s d =
    let z = (domain-exactly g c before w).1 d in
    let e : r.refusal ≡ run_refusal (run_in g c) = is-own g c before after r s ∙ else-none (solve_refusal g c before) (run_refusal (run_in g c)) z in
    (e, ⊎_elim (λ x. inl (e ∙ x)) (⊎_elim (λ x. inr (inl (e ∙ x))) (λ x. inr (inr (e ∙ x)))) (run-numbers g c))
