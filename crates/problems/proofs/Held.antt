-- WHAT A PROBLEM IS THAT ROWS HAVE MADE: components of the problem, kinds, legal types, ascending sets within their limits. It is so
-- after the count, stays so with every row, taken or refused, and gives what a solve asks.
use Rattle.std.specs.Prelude.{◌≡◌, Bool, cond, not, ◌&&◌, ℕ, ◌+◌, ◌≤◌, ◌<◌, ltb}
use Rattle.std.proofs.Math.Path.{refl, subst}
use Rattle.std.proofs.Common.{sym, arith}
use Rattle.std.proofs.Math.Bool.{true, false}
use mathlib.Core.List.Memᴰ
use mathlib.Core.List.{List, [], ◌∷◌, ◌++◌, Memᴰ}
use Rattle.std.proofs.Math.Logic.{⊎_elim}
use Rattle.std.proofs.Math.Dec.{eqb, leb}
use Rattle.std.proofs.Math.ListN.{length, length-append}
use borrow.Author.Tests.{ltb-true, ltb-false, leb-true, leb-false, eqb-true}
use Rattle.ty.specs.Words.{legal_word, type_of}
use Rattle.ty.specs.Round.{legal-of-word}
use Rattle.order.specs.Truth.{both}
use Rattle.checks.specs.Checks.{check, first_refusal}
use Rattle.solving.specs.Ordered.{insert, set_of, Ascending}
use Rattle.solving.proofs.OrderedLaws.{insert-only, insert-ascending, set-ascending, set-has, set-only, same-members}
use Rattle.solving.proofs.Orders.{bounds-total, pairs-total}
use Rattle.solving.specs.Tidy.{LegalBound}
use Rattle.solving.specs.Solving.{Bound, bound, compare_bounds, Pair, compare_pairs, Problem, table_of}
use Rattle.solving.specs.Solve.{Checked}
use Rattle.problems.specs.Problems.{ProblemRow, counted, variable, bounded, flow, upper_flow, reading, writing, no_problem, with_count, with_row, among, row_checks, row_refusal, problem_row, problem_rows, Placed, Columns, variable_rows, bound_rows, pair_rows, problem_in, problem}
use Rattle.problems.specs.Held.{In, Links, Held, Later, AllLater, Words}

-- ---- before the rows, and after the count

no-links : (n : ℕ) → Links n []
no-links n = record { ascend = tt; within = λ r m. absurd (Memᴰ.not-nil m) }

pub held-count : (names n : ℕ) → n ≤ 512 → Held names (with_count n no_problem)
unfolding no_problem
held-count names n h = record {
  few = h;
  variables-few = omega arith;
  variables-in = λ c m. absurd (Memᴰ.not-nil m);
  bounds-few = omega arith;
  bounds-ascend = tt;
  bounds-legal = λ b m. absurd (Memᴰ.not-nil m);
  flows-few = omega arith;
  flows = no-links n;
  upper-few = omega arith;
  upper_flows = no-links n;
  arrays-few = omega arith;
  reads = no-links n;
  writes = no-links n;
}

pub held-none : (names : ℕ) → Held names no_problem
unfolding no_problem
held-none names = held-count names 0 (omega arith)

-- ---- what a row that is taken must be

pub two : (a b : Bool) → first_refusal (check (not a) 6 ∷ check b 8 ∷ []) ≡ 0 → (a ≡ true) × (b ≡ false)
unfolding first_refusal
two true true h = absurd (omega arith)
two true false h = (refl, refl)
two false b h = absurd (omega arith)

pub three : (a b c : Bool) → first_refusal (check (not a) 6 ∷ check (not b) 7 ∷ check c 8 ∷ []) ≡ 0 → (a ≡ true) × (b ≡ true) × (c ≡ false)
unfolding first_refusal
three true true true h = absurd (omega arith)
three true true false h = (refl, refl, refl)
three true false c h = absurd (omega arith)
three false b c h = absurd (omega arith)

pub are-in : (p : Problem) (a b : ℕ) → among p a b ≡ true → In p.components (a, b)
are-in p a b h = let k = both (ltb a p.components) (ltb b p.components) h in (ltb-true a p.components k.0, ltb-true b p.components k.1)

links-more : (n : ℕ) (r : Pair) (l : List Pair) → In n r → Links n l → Links n (insert compare_pairs r l)
links-more n r l i k = record {
  ascend = insert-ascending compare_pairs pairs-total r l k.ascend;
  within = λ z m. ⊎_elim (λ e. subst (In n) (sym e) i) (k.within z) (insert-only compare_pairs r z l m);
}

module _ (names : ℕ) (p : Problem) (h : Held names p) where
  taken : (r : ProblemRow) → Later r → row_refusal names r p ≡ 0 → Held names (with_row r p)
  unfolding row_refusal row_checks with_row
  taken (counted n) l z = absurd l
  taken (variable c) l z =
      let k = two (ltb c p.components) (leb 2048 (length p.variables)) z in
      let room = leb-false 2048 (length p.variables) k.1 in
      let more = length-append p.variables (c ∷ []) in
      record {
        few = h.few;
        variables-few = omega arith;
        variables-in = λ d m. ⊎_elim (h.variables-in d)
            (λ n. ⊎_elim (λ e. subst (λ (x : ℕ). x < p.components) (sym e) (ltb-true c p.components k.0)) (λ o. absurd (Memᴰ.not-nil o)) (Memᴰ.cases_cons n))
            (Memᴰ.append_cases p.variables m);
        bounds-few = h.bounds-few;
        bounds-ascend = h.bounds-ascend;
        bounds-legal = h.bounds-legal;
        flows-few = h.flows-few;
        flows = h.flows;
        upper-few = h.upper-few;
        upper_flows = h.upper_flows;
        arrays-few = h.arrays-few;
        reads = h.reads;
        writes = h.writes;
      }
  taken (bounded c k w) l z =
      let b = bound c k (type_of w) in
      let t = three (ltb c p.components && leb k 4) (legal_word names w) (ltb 4096 (length (insert compare_bounds b p.bounds))) z in
      let n = both (ltb c p.components) (leb k 4) t.0 in
      let legal : LegalBound names p.components b = record {
        component = ltb-true c p.components n.0;
        kind = let q = leb-true k 4 n.1 in omega arith;
        type = legal-of-word names w l t.1;
      } in
      record {
        few = h.few;
        variables-few = h.variables-few;
        variables-in = h.variables-in;
        bounds-few = ltb-false 4096 (length (insert compare_bounds b p.bounds)) t.2;
        bounds-ascend = insert-ascending compare_bounds bounds-total b p.bounds h.bounds-ascend;
        bounds-legal = λ x m. ⊎_elim (λ e. subst (LegalBound names p.components) (sym e) legal) (h.bounds-legal x) (insert-only compare_bounds b x p.bounds m);
        flows-few = h.flows-few;
        flows = h.flows;
        upper-few = h.upper-few;
        upper_flows = h.upper_flows;
        arrays-few = h.arrays-few;
        reads = h.reads;
        writes = h.writes;
      }
  taken (flow a b) l z =
      let k = two (among p a b) (ltb 2048 (length (insert compare_pairs (a, b) p.flows))) z in
      record {
        few = h.few;
        variables-few = h.variables-few;
        variables-in = h.variables-in;
        bounds-few = h.bounds-few;
        bounds-ascend = h.bounds-ascend;
        bounds-legal = h.bounds-legal;
        flows-few = ltb-false 2048 (length (insert compare_pairs (a, b) p.flows)) k.1;
        flows = links-more p.components (a, b) p.flows (are-in p a b k.0) h.flows;
        upper-few = h.upper-few;
        upper_flows = h.upper_flows;
        arrays-few = h.arrays-few;
        reads = h.reads;
        writes = h.writes;
      }
  taken (upper_flow a b) l z =
      let k = two (among p a b) (ltb 1024 (length (insert compare_pairs (a, b) p.upper_flows))) z in
      record {
        few = h.few;
        variables-few = h.variables-few;
        variables-in = h.variables-in;
        bounds-few = h.bounds-few;
        bounds-ascend = h.bounds-ascend;
        bounds-legal = h.bounds-legal;
        flows-few = h.flows-few;
        flows = h.flows;
        upper-few = ltb-false 1024 (length (insert compare_pairs (a, b) p.upper_flows)) k.1;
        upper_flows = links-more p.components (a, b) p.upper_flows (are-in p a b k.0) h.upper_flows;
        arrays-few = h.arrays-few;
        reads = h.reads;
        writes = h.writes;
      }
  taken (reading a b) l z =
      let k = two (among p a b) (ltb 1024 (length (insert compare_pairs (a, b) p.reads) + length p.writes)) z in
      record {
        few = h.few;
        variables-few = h.variables-few;
        variables-in = h.variables-in;
        bounds-few = h.bounds-few;
        bounds-ascend = h.bounds-ascend;
        bounds-legal = h.bounds-legal;
        flows-few = h.flows-few;
        flows = h.flows;
        upper-few = h.upper-few;
        upper_flows = h.upper_flows;
        arrays-few = ltb-false 1024 (length (insert compare_pairs (a, b) p.reads) + length p.writes) k.1;
        reads = links-more p.components (a, b) p.reads (are-in p a b k.0) h.reads;
        writes = h.writes;
      }
  taken (writing a b) l z =
      let k = two (among p a b) (ltb 1024 (length p.reads + length (insert compare_pairs (a, b) p.writes))) z in
      record {
        few = h.few;
        variables-few = h.variables-few;
        variables-in = h.variables-in;
        bounds-few = h.bounds-few;
        bounds-ascend = h.bounds-ascend;
        bounds-legal = h.bounds-legal;
        flows-few = h.flows-few;
        flows = h.flows;
        upper-few = h.upper-few;
        upper_flows = h.upper_flows;
        arrays-few = ltb-false 1024 (length p.reads + length (insert compare_pairs (a, b) p.writes)) k.1;
        reads = h.reads;
        writes = links-more p.components (a, b) p.writes (are-in p a b k.0) h.writes;
      }

  -- A ROW, TAKEN OR REFUSED, KEEPS IT
  pub held-row : (r : ProblemRow) → Later r → Held names (problem_row names r p).problem
  unfolding problem_row
  held-row r l = go (eqb (row_refusal names r p) 0) refl
    where
      go : (b : Bool) → eqb (row_refusal names r p) 0 ≡ b → Held names (cond b (with_row r p) p)
      go true e = taken r l (eqb-true (row_refusal names r p) 0 e)
      go false e = h

pub held-rows : (names : ℕ) (rs : List ProblemRow) (p : Problem) → AllLater rs → Held names p → Held names (problem_rows names rs p).problem
unfolding problem_rows
held-rows names [] p l h = h
held-rows names (r ∷ rs) p l h =
    let one = held-row names p h r l.0 in
    go (eqb (problem_row names r p).refusal 0) one (held-rows names rs (problem_row names r p).problem l.1 one)
  where
    rest : Placed
    rest = problem_rows names rs (problem_row names r p).problem

    go : (b : Bool) → Held names (problem_row names r p).problem → Held names rest.problem → Held names (cond b rest (problem_row names r p)).problem
    go true one all = all
    go false one all = one

-- the count first
pub held-counted : (names n : ℕ) → Held names (problem_row names (counted n) no_problem).problem
unfolding problem_row row_refusal row_checks with_row first_refusal no_problem
held-counted names n = go (ltb 512 n) refl
  where
    go : (b : Bool) → ltb 512 n ≡ b → Held names (cond (eqb (cond b 8 0) 0) (with_count n no_problem) no_problem)
    go true e = held-none names
    go false e = held-count names n (ltb-false 512 n e)

later-append : (xs ys : List ProblemRow) → AllLater xs → AllLater ys → AllLater (xs ++ ys)
later-append [] ys h k = k
later-append (r ∷ xs) ys h k = (h.0, later-append xs ys h.1 k)

later-variables : (cs : List ℕ) → AllLater (variable_rows cs)
unfolding variable_rows
later-variables [] = tt
later-variables (c ∷ cs) = (tt, later-variables cs)

later-bounds : (cs ks ws : List ℕ) → Words ws → AllLater (bound_rows cs ks ws)
unfolding bound_rows
later-bounds [] ks ws h = tt
later-bounds (c ∷ cs) [] ws h = tt
later-bounds (c ∷ cs) (k ∷ ks) [] h = tt
later-bounds (c ∷ cs) (k ∷ ks) (w ∷ ws) h = (h.0, later-bounds cs ks ws h.1)

later-pairs : (row : ℕ → ℕ → ProblemRow) → ((a b : ℕ) → Later (row a b)) → (xs ys : List ℕ) → AllLater (pair_rows row xs ys)
unfolding pair_rows
later-pairs row h [] ys = tt
later-pairs row h (x ∷ xs) [] = tt
later-pairs row h (x ∷ xs) (y ∷ ys) = (h x y, later-pairs row h xs ys)

-- EVERY PROBLEM FROM COLUMNS IS HELD, refused or not
pub held-problem : (names : ℕ) (c : Columns) → Words c.bound_words → Held names (problem names c).problem
unfolding problem problem_in problem_rows
held-problem names c w = go (eqb one.refusal 0)
  where
    one : Placed
    one = problem_row names (counted c.components) no_problem

    rest : List ProblemRow
    rest = variable_rows c.variables
        ++ (bound_rows c.bound_components c.bound_kinds c.bound_words
        ++ (pair_rows flow c.flow_sources c.flow_targets
        ++ (pair_rows upper_flow c.upper_sources c.upper_targets
        ++ (pair_rows reading c.read_arrays c.read_results ++ pair_rows writing c.write_arrays c.write_values))))

    all : AllLater rest
    all =
        later-append (variable_rows c.variables) _ (later-variables c.variables)
        (later-append (bound_rows c.bound_components c.bound_kinds c.bound_words) _ (later-bounds c.bound_components c.bound_kinds c.bound_words w)
        (later-append (pair_rows flow c.flow_sources c.flow_targets) _ (later-pairs flow (λ a b. tt) c.flow_sources c.flow_targets)
        (later-append (pair_rows upper_flow c.upper_sources c.upper_targets) _ (later-pairs upper_flow (λ a b. tt) c.upper_sources c.upper_targets)
        (later-append (pair_rows reading c.read_arrays c.read_results) _ (later-pairs reading (λ a b. tt) c.read_arrays c.read_results)
        (later-pairs writing (λ a b. tt) c.write_arrays c.write_values)))))

    go : (b : Bool) → Held names (cond b (problem_rows names rest one.problem) one).problem
    go true = held-rows names rest one.problem all (held-counted names c.components)
    go false = held-counted names c.components

-- ---- and gives what a solve asks

-- an ascending list is its own set
pub set-self : (l : List Bound) → Ascending compare_bounds l → set_of compare_bounds l ≡ l
set-self l g =
    same-members compare_bounds bounds-total (set_of compare_bounds l) l (set-ascending compare_bounds bounds-total l) g
    (λ z m. set-only compare_bounds z l m, λ z m. set-has compare_bounds bounds-total z l m)

pub held-checked : (names : ℕ) (p : Problem) → Held names p → Checked names p
unfolding table_of
held-checked names p h = record {
  bounds = h.bounds-legal;
  few = subst (λ (l : List Bound). length l ≤ 4096) (sym (set-self p.bounds h.bounds-ascend)) h.bounds-few;
  flows = h.flows.within;
  upper_flows = h.upper_flows.within;
  reads = h.reads.within;
  writes = h.writes.within;
}
