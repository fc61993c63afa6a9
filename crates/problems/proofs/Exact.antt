-- A PROBLEM IS TAKEN EXACTLY IF its rows are in range, its words legal and its entries, counted without repeats, within the limits: so a
-- version that refuses more is ruled out, and order and repeats have no effect on whether it is refused.
use Rattle.std.specs.Prelude.{◌≡◌, Bool, not, ◌&&◌, ◌↔◌, ℕ, suc, ◌+◌, ◌≤◌, ◌<◌, ltb}
use Rattle.std.proofs.Math.Path.{refl, subst}
use Rattle.std.proofs.Common.{ap₂, ◌∙◌, arith}
use Rattle.std.proofs.Math.Bool.{true, false, cond}
use mathlib.Core.List.{List, [], ◌∷◌, ◌++◌}
use Rattle.std.proofs.Math.Dec.{eqb, leb}
use Rattle.std.proofs.Math.ListN.{length, length-append}
use borrow.Author.Tests.{lt-ltb, le-ltb, ltb-true, ltb-false, le-leb, leb-true, eqb-true, eqb-false}
use Rattle.std.specs.declared.cmp.Ordering.{Ordering}
use Rattle.ty.specs.Words.{legal_word, type_of}
use Rattle.order.specs.Truth.{both}
use Rattle.checks.specs.Checks.{check, first_refusal}
use Rattle.std.specs.declared.cmp.Ordering.TheVariants.{Less, Equal, Greater}
use Rattle.solving.specs.Ordered.{by_order, insert}
use Rattle.solving.specs.Solving.{bound, compare_bounds, compare_pairs, Problem}
use Rattle.problems.specs.Problems.{ProblemRow, counted, variable, bounded, flow, upper_flow, reading, writing, no_problem, with_count, with_row, among, row_checks, row_refusal, problem_row, problem_rows, Columns, variable_rows, bound_rows, pair_rows, problem_in, problem}
use Rattle.problems.specs.Held.{Words}
use Rattle.problems.proofs.Held.{two, three, are-in, held-problem}
use Rattle.problems.specs.Plain.{with_rows}
use Rattle.problems.proofs.Plain.{rows-taken}
use Rattle.problems.specs.Exact.{InRange, AllInRange, Roomy, NotCount, NoCount, later_rows, Allowed}

-- ---- no row takes an entry away

longer : {A : Type 0} (compare : A → A → Ordering) (x : A) (l : List A) → length l ≤ length (insert compare x l)
unfolding insert
longer compare x [] = omega arith
longer compare x (y ∷ l) = go (compare x y) (longer compare x l)
  where
    go : (o : Ordering) → length l ≤ length (insert compare x l) → suc (length l) ≤ length (by_order o (x ∷ y ∷ l) (y ∷ l) (y ∷ insert compare x l))
    go Less h = omega arith
    go Equal h = omega arith
    go Greater h = omega arith

not-leb : (x y : ℕ) → y < x → leb x y ≡ false
not-leb x y h = go (leb x y) refl
  where
    go : (b : Bool) → leb x y ≡ b → b ≡ false
    go true e = absurd (let k = leb-true x y e in omega arith)
    go false e = refl

pass-three : (a b c : Bool) → a ≡ true → b ≡ true → c ≡ false → first_refusal (check (not a) 6 ∷ check (not b) 7 ∷ check c 8 ∷ []) ≡ 0
unfolding first_refusal
pass-three a b c h k l = rw (h, k, l)

module _ (names n : ℕ) where
  row-components : (r : ProblemRow) (p : Problem) → InRange names n r → (with_row r p).components ≡ p.components
  unfolding with_row
  row-components (counted m) p i = absurd i
  row-components (variable c) p i = refl
  row-components (bounded c k w) p i = refl
  row-components (flow a b) p i = refl
  row-components (upper_flow a b) p i = refl
  row-components (reading a b) p i = refl
  row-components (writing a b) p i = refl

  row-room : (r : ProblemRow) (p : Problem) → InRange names n r → Roomy (with_row r p) → Roomy p
  unfolding with_row
  row-room (counted m) p i h = absurd i
  row-room (variable c) p i h =
      record { variables = (let k = h.variables in let e = length-append p.variables (c ∷ []) in omega arith); bounds = h.bounds; flows = h.flows; upper_flows = h.upper_flows; arrays = h.arrays }
  row-room (bounded c k w) p i h =
      record { variables = h.variables; bounds = (let e = h.bounds in let l = longer compare_bounds (bound c k (type_of w)) p.bounds in omega arith); flows = h.flows; upper_flows = h.upper_flows; arrays = h.arrays }
  row-room (flow a b) p i h =
      record { variables = h.variables; bounds = h.bounds; flows = (let e = h.flows in let l = longer compare_pairs (a, b) p.flows in omega arith); upper_flows = h.upper_flows; arrays = h.arrays }
  row-room (upper_flow a b) p i h =
      record { variables = h.variables; bounds = h.bounds; flows = h.flows; upper_flows = (let e = h.upper_flows in let l = longer compare_pairs (a, b) p.upper_flows in omega arith); arrays = h.arrays }
  row-room (reading a b) p i h =
      record { variables = h.variables; bounds = h.bounds; flows = h.flows; upper_flows = h.upper_flows; arrays = (let e = h.arrays in let l = longer compare_pairs (a, b) p.reads in omega arith) }
  row-room (writing a b) p i h =
      record { variables = h.variables; bounds = h.bounds; flows = h.flows; upper_flows = h.upper_flows; arrays = (let e = h.arrays in let l = longer compare_pairs (a, b) p.writes in omega arith) }

  rows-room : (rs : List ProblemRow) (p : Problem) → AllInRange names n rs → Roomy (with_rows rs p) → Roomy p
  unfolding with_rows
  rows-room [] p i h = h
  rows-room (r ∷ rs) p i h = row-room r p i.0 (rows-room rs (with_row r p) i.1 h)

  -- ---- a row in range that fits is taken

  pass-two : (a b : Bool) → a ≡ true → b ≡ false → first_refusal (check (not a) 6 ∷ check b 8 ∷ []) ≡ 0
  unfolding first_refusal
  pass-two a b h k = rw (h, k)

  pass-pair : (p : Problem) (a b : ℕ) → p.components ≡ n → (a < n) × (b < n) → among p a b ≡ true
  pass-pair p a b e i = rw e (ap₂ (λ (x y : Bool). x && y) (lt-ltb a n i.0) (lt-ltb b n i.1))

  row-passes : (r : ProblemRow) (p : Problem) → p.components ≡ n → InRange names n r → Roomy (with_row r p) → row_refusal names r p ≡ 0
  unfolding row_refusal row_checks with_row
  row-passes (counted m) p e i h = absurd i
  row-passes (variable c) p e i h =
      pass-two (ltb c p.components) (leb 2048 (length p.variables)) (rw e (lt-ltb c n i))
      (not-leb 2048 (length p.variables) (let k = h.variables in let l = length-append p.variables (c ∷ []) in omega arith))
  row-passes (bounded c k w) p e i h =
      pass-three (ltb c p.components && leb k 4) (legal_word names w) (ltb 4096 (length (insert compare_bounds (bound c k (type_of w)) p.bounds)))
      (rw e (ap₂ (λ (x y : Bool). x && y) (lt-ltb c n i.0) (le-leb k 4 i.1))) i.2 (le-ltb 4096 (length (insert compare_bounds (bound c k (type_of w)) p.bounds)) h.bounds)
  row-passes (flow a b) p e i h =
      pass-two (among p a b) (ltb 2048 (length (insert compare_pairs (a, b) p.flows))) (pass-pair p a b e i) (le-ltb 2048 (length (insert compare_pairs (a, b) p.flows)) h.flows)
  row-passes (upper_flow a b) p e i h =
      pass-two (among p a b) (ltb 1024 (length (insert compare_pairs (a, b) p.upper_flows))) (pass-pair p a b e i) (le-ltb 1024 (length (insert compare_pairs (a, b) p.upper_flows)) h.upper_flows)
  row-passes (reading a b) p e i h =
      pass-two (among p a b) (ltb 1024 (length (insert compare_pairs (a, b) p.reads) + length p.writes)) (pass-pair p a b e i) (le-ltb 1024 (length (insert compare_pairs (a, b) p.reads) + length p.writes) h.arrays)
  row-passes (writing a b) p e i h =
      pass-two (among p a b) (ltb 1024 (length p.reads + length (insert compare_pairs (a, b) p.writes))) (pass-pair p a b e i) (le-ltb 1024 (length p.reads + length (insert compare_pairs (a, b) p.writes)) h.arrays)

  rows-pass : (rs : List ProblemRow) (p : Problem) → p.components ≡ n → AllInRange names n rs → Roomy (with_rows rs p) → (problem_rows names rs p).refusal ≡ 0
  unfolding with_rows problem_rows problem_row
  rows-pass [] p e i h = refl
  rows-pass (r ∷ rs) p e i h =
      let z = row-passes r p e i.0 (rows-room rs (with_row r p) i.1 h) in
      rw (z) (rows-pass rs (with_row r p) (row-components r p i.0 ∙ e) i.1 h)

  -- ---- and one that is taken is in range and fits

  row-says : (r : ProblemRow) (p : Problem) → p.components ≡ n → NotCount r → row_refusal names r p ≡ 0 → InRange names n r
  unfolding row_refusal row_checks
  row-says (counted m) p e l z = absurd l
  row-says (variable c) p e l z = subst (λ (m : ℕ). c < m) e (ltb-true c p.components (two (ltb c p.components) (leb 2048 (length p.variables)) z).0)
  row-says (bounded c k w) p e l z =
      let t = three (ltb c p.components && leb k 4) (legal_word names w) (ltb 4096 (length (insert compare_bounds (bound c k (type_of w)) p.bounds))) z in
      let d = both (ltb c p.components) (leb k 4) t.0 in
      (subst (λ (m : ℕ). c < m) e (ltb-true c p.components d.0), leb-true k 4 d.1, t.1)
  row-says (flow a b) p e l z = subst (λ (m : ℕ). (a < m) × (b < m)) e (are-in p a b (two (among p a b) (ltb 2048 (length (insert compare_pairs (a, b) p.flows))) z).0)
  row-says (upper_flow a b) p e l z = subst (λ (m : ℕ). (a < m) × (b < m)) e (are-in p a b (two (among p a b) (ltb 1024 (length (insert compare_pairs (a, b) p.upper_flows))) z).0)
  row-says (reading a b) p e l z = subst (λ (m : ℕ). (a < m) × (b < m)) e (are-in p a b (two (among p a b) (ltb 1024 (length (insert compare_pairs (a, b) p.reads) + length p.writes)) z).0)
  row-says (writing a b) p e l z = subst (λ (m : ℕ). (a < m) × (b < m)) e (are-in p a b (two (among p a b) (ltb 1024 (length p.reads + length (insert compare_pairs (a, b) p.writes))) z).0)

  rows-say : (rs : List ProblemRow) (p : Problem) → p.components ≡ n → NoCount rs → (problem_rows names rs p).refusal ≡ 0 → AllInRange names n rs
  unfolding problem_rows problem_row
  rows-say [] p e l z = tt
  rows-say (r ∷ rs) p e l z = go (eqb (row_refusal names r p) 0) refl z (λ k. rows-say rs (with_row r p) k l.1)
    where
      go : (b : Bool) → eqb (row_refusal names r p) 0 ≡ b
          → (cond b (problem_rows names rs (cond b (with_row r p) p)) (record { refusal = row_refusal names r p; problem = cond b (with_row r p) p })).refusal ≡ 0
          → ((with_row r p).components ≡ n → (problem_rows names rs (with_row r p)).refusal ≡ 0 → AllInRange names n rs) → AllInRange names n (r ∷ rs)
      go true q y ih =
          let i = row-says r p e l.0 (eqb-true (row_refusal names r p) 0 q) in
          (i, ih (row-components r p i ∙ e) y)
      go false q y ih = absurd (eqb-false (row_refusal names r p) 0 q y)

no-append : (xs ys : List ProblemRow) → NoCount xs → NoCount ys → NoCount (xs ++ ys)
no-append [] ys h k = k
no-append (x ∷ xs) ys h k = (h.0, no-append xs ys h.1 k)

no-variables : (cs : List ℕ) → NoCount (variable_rows cs)
unfolding variable_rows
no-variables [] = tt
no-variables (c ∷ cs) = (tt, no-variables cs)

no-bounds : (cs ks ws : List ℕ) → NoCount (bound_rows cs ks ws)
unfolding bound_rows
no-bounds [] ks ws = tt
no-bounds (c ∷ cs) [] ws = tt
no-bounds (c ∷ cs) (k ∷ ks) [] = tt
no-bounds (c ∷ cs) (k ∷ ks) (w ∷ ws) = (tt, no-bounds cs ks ws)

no-pairs : (make : ℕ → ℕ → ProblemRow) → ((a b : ℕ) → NotCount (make a b)) → (xs ys : List ℕ) → NoCount (pair_rows make xs ys)
unfolding pair_rows
no-pairs make h [] ys = tt
no-pairs make h (x ∷ xs) [] = tt
no-pairs make h (x ∷ xs) (y ∷ ys) = (h x y, no-pairs make h xs ys)

no-count : (c : Columns) → NoCount (later_rows c)
unfolding later_rows
no-count c =
    no-append (variable_rows c.variables) _ (no-variables c.variables)
    (no-append (bound_rows c.bound_components c.bound_kinds c.bound_words) _ (no-bounds c.bound_components c.bound_kinds c.bound_words)
    (no-append (pair_rows flow c.flow_sources c.flow_targets) _ (no-pairs flow (λ a b. tt) c.flow_sources c.flow_targets)
    (no-append (pair_rows upper_flow c.upper_sources c.upper_targets) _ (no-pairs upper_flow (λ a b. tt) c.upper_sources c.upper_targets)
    (no-append (pair_rows reading c.read_arrays c.read_results) _ (no-pairs reading (λ a b. tt) c.read_arrays c.read_results)
    (no-pairs writing (λ a b. tt) c.write_arrays c.write_values)))))

count-passes : (names n : ℕ) → n ≤ 512 → row_refusal names (counted n) no_problem ≡ 0
unfolding row_refusal row_checks first_refusal
count-passes names n h = rw (le-ltb 512 n h)

count-says : (names n : ℕ) → row_refusal names (counted n) no_problem ≡ 0 → n ≤ 512
unfolding row_refusal row_checks first_refusal
count-says names n z = go (ltb 512 n) refl z
  where
    go : (b : Bool) → ltb 512 n ≡ b → cond {A = ℕ} b 8 0 ≡ 0 → n ≤ 512
    go true e q = absurd (omega arith)
    go false e q = ltb-false 512 n e

-- the count is taken, and the rows after it
split : (names : ℕ) (c : Columns) → (problem names c).refusal ≡ 0 → (c.components ≤ 512) × ((problem_rows names (later_rows c) (with_count c.components no_problem)).refusal ≡ 0)
unfolding problem problem_in problem_rows problem_row later_rows with_row
split names c z = go (eqb (row_refusal names (counted c.components) no_problem) 0) refl z
  where
    n : ℕ
    n = c.components

    go : (b : Bool) → eqb (row_refusal names (counted c.components) no_problem) 0 ≡ b
        → (cond b (problem_rows names (later_rows c) (cond b (with_count c.components no_problem) no_problem)) (record { refusal = row_refusal names (counted c.components) no_problem; problem = cond b (with_count c.components no_problem) no_problem })).refusal ≡ 0
        → (c.components ≤ 512) × ((problem_rows names (later_rows c) (with_count c.components no_problem)).refusal ≡ 0)
    go true e q = (count-says names c.components (eqb-true (row_refusal names (counted c.components) no_problem) 0 e), q)
    go false e q = absurd (eqb-false (row_refusal names (counted c.components) no_problem) 0 e q)

taken-rows : (names : ℕ) (c : Columns) → (problem names c).refusal ≡ 0 → (problem names c).problem ≡ with_rows (later_rows c) (with_count c.components no_problem)
unfolding problem problem_in later_rows with_rows with_row
taken-rows names c z = rows-taken names (problem_in c) no_problem z

module _ (names : ℕ) (c : Columns) where
  pub allowed-taken : Allowed names c → (problem names c).refusal ≡ 0
  unfolding problem problem_in problem_rows problem_row later_rows with_row
  allowed-taken a =
      rw (count-passes names c.components a.few)
      (rows-pass names c.components (later_rows c) (with_count c.components no_problem) refl a.ranges a.room)

  pub taken-allowed : Words c.bound_words → (problem names c).refusal ≡ 0 → Allowed names c
  taken-allowed w z = record {
    few = parts.0;
    ranges = rows-say names c.components (later_rows c) (with_count c.components no_problem) refl (no-count c) parts.1;
    room =
        let h = held-problem names c w in
        let e = problem-is z in
        let v = h.variables-few in
        let b = h.bounds-few in
        let f = h.flows-few in
        let u = h.upper-few in
        let r = h.arrays-few in
        subst Roomy e (record { variables = v; bounds = b; flows = f; upper_flows = u; arrays = r });
  }
    where
      parts : (c.components ≤ 512) × ((problem_rows names (later_rows c) (with_count c.components no_problem)).refusal ≡ 0)
      parts = split names c z

      problem-is : (problem names c).refusal ≡ 0 → (problem names c).problem ≡ with_rows (later_rows c) (with_count c.components no_problem)
      problem-is q = taken-rows names c q

  -- TAKEN EXACTLY IF ALLOWED
  pub problem-exactly : Words c.bound_words → ((problem names c).refusal ≡ 0) ↔ Allowed names c
  problem-exactly w = (taken-allowed w, allowed-taken)
