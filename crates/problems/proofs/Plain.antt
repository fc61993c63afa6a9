-- A PROBLEM THAT IS TAKEN IS THE ONE THAT ITS ROWS LIST: the same rows, in any order and with any repeats, so a solve of it is the solve of
-- what was given.
use Rattle.std.specs.Prelude.{◌≡◌, refl, Bool, true, false, cond, ℕ, ◌+◌, ◌≤◌, ◌<◌, eqb}
use Rattle.std.proofs.Math.Path.{sym, ap, subst}
use Rattle.std.proofs.Common.{◌∙◌, ⊎_elim, arith}
use mathlib.Core.List.Memᴰ
use mathlib.Core.List.{List, [], ◌∷◌, ◌++◌, Memᴰ}
use Rattle.std.proofs.Math.ListN.{length}
use Rattle.std.proofs.lemmas.Bool.{eqb-false}
use Rattle.std.specs.declared.cmp.Ordering.{Ordering}
use Rattle.ty.specs.Words.{type_of}
use Rattle.lattice.specs.Lattice.{World}
use Rattle.solving.specs.Ordered.{insert, set_of, Ascending}
use Rattle.solving.specs.OrderedLaws.{Total, SameMembers}
use Rattle.solving.proofs.OrderedLaws.{insert-keeps, insert-only, insert-has, set-same, set-has, set-only, set-ascending, same-members}
use Rattle.solving.proofs.Orders.{bounds-total, pairs-total}
use Rattle.solving.specs.Tidy.{LegalBound}
use Rattle.solving.specs.Solving.{Bound, bound, compare_bounds, Pair, compare_pairs, Problem, table_of, solve}
use Rattle.solving.specs.Solve.{SameRows}
use Rattle.solving.proofs.Solve.{solve-same}
use Rattle.problems.specs.Problems.{ProblemRow, counted, variable, bounded, flow, upper_flow, reading, writing, no_problem, with_row, row_refusal, problem_row, problem_rows, Placed, Columns, variable_rows, bound_rows, pair_rows, problem_in, problem}
use Rattle.problems.specs.Held.{Held, Words, In}
use Rattle.problems.proofs.Held.{held-problem, held-checked}
use Rattle.problems.specs.Plain.{bounds_of, pairs_of, plain_problem, list_row, list_rows, with_rows, make, Meant}

-- rows that are taken leave the problem with them
pub rows-taken : (names : ℕ) (rs : List ProblemRow) (p : Problem) → (problem_rows names rs p).refusal ≡ 0 → (problem_rows names rs p).problem ≡ with_rows rs p
unfolding problem_rows with_rows problem_row
rows-taken names [] p z = refl
rows-taken names (r ∷ rs) p z = go (eqb (row_refusal names r p) 0) refl z (rows-taken names rs (with_row r p))
  where
    one : Bool → Placed
    one b = record { refusal = row_refusal names r p; problem = cond b (with_row r p) p }

    go : (b : Bool) → eqb (row_refusal names r p) 0 ≡ b → (cond b (problem_rows names rs (one b).problem) (one b)).refusal ≡ 0
        → ((problem_rows names rs (with_row r p)).refusal ≡ 0 → (problem_rows names rs (with_row r p)).problem ≡ with_rows rs (with_row r p))
        → (cond b (problem_rows names rs (one b).problem) (one b)).problem ≡ with_rows rs (with_row r p)
    go true e q ih = ih q
    go false e q ih = absurd (eqb-false (row_refusal names r p) 0 e q)

-- ---- the same rows

module _ {A : Type 0} (compare : A → A → Ordering) (t : Total compare) where
  one-more : (x : A) (l m : List A) → SameMembers l m → SameMembers (insert compare x l) (m ++ (x ∷ []))
  one-more x l m s = (
    λ z k. ⊎_elim (λ e. Memᴰ.append_right m (Memᴰ.head e)) (λ n. Memᴰ.append_left (x ∷ []) (s.0 z n)) (insert-only compare x z l k),
    λ z k. ⊎_elim (λ n. insert-keeps compare x z l (s.1 z n))
        (λ n. ⊎_elim (λ e. subst (λ (y : A). Memᴰ y (insert compare x l)) (sym e) (insert-has compare t x l)) (λ o. absurd (Memᴰ.not-nil o)) (Memᴰ.cases_cons n))
        (Memᴰ.append_cases m k),
  )

same-row : (r : ProblemRow) (p q : Problem) → SameRows p q → SameRows (with_row r p) (list_row r q)
unfolding with_row list_row
same-row (counted n) p q s = record { components = refl; variables = s.variables; bounds = s.bounds; flows = s.flows; upper_flows = s.upper_flows; reads = s.reads; writes = s.writes }
same-row (variable c) p q s = record { components = s.components; variables = ap (λ (l : List ℕ). l ++ (c ∷ [])) s.variables; bounds = s.bounds; flows = s.flows; upper_flows = s.upper_flows; reads = s.reads; writes = s.writes }
same-row (bounded c k w) p q s = record { components = s.components; variables = s.variables; bounds = one-more compare_bounds bounds-total (bound c k (type_of w)) p.bounds q.bounds s.bounds; flows = s.flows; upper_flows = s.upper_flows; reads = s.reads; writes = s.writes }
same-row (flow a b) p q s = record { components = s.components; variables = s.variables; bounds = s.bounds; flows = one-more compare_pairs pairs-total (a, b) p.flows q.flows s.flows; upper_flows = s.upper_flows; reads = s.reads; writes = s.writes }
same-row (upper_flow a b) p q s = record { components = s.components; variables = s.variables; bounds = s.bounds; flows = s.flows; upper_flows = one-more compare_pairs pairs-total (a, b) p.upper_flows q.upper_flows s.upper_flows; reads = s.reads; writes = s.writes }
same-row (reading a b) p q s = record { components = s.components; variables = s.variables; bounds = s.bounds; flows = s.flows; upper_flows = s.upper_flows; reads = one-more compare_pairs pairs-total (a, b) p.reads q.reads s.reads; writes = s.writes }
same-row (writing a b) p q s = record { components = s.components; variables = s.variables; bounds = s.bounds; flows = s.flows; upper_flows = s.upper_flows; reads = s.reads; writes = one-more compare_pairs pairs-total (a, b) p.writes q.writes s.writes }

pub same-rows : (rs : List ProblemRow) (p q : Problem) → SameRows p q → SameRows (with_rows rs p) (list_rows rs q)
unfolding with_rows list_rows
same-rows [] p q s = s
same-rows (r ∷ rs) p q s = same-rows rs (with_row r p) (list_row r q) (same-row r p q s)

same-self : (p : Problem) → SameRows p p
same-self p = record { components = refl; variables = refl; bounds = (λ z m. m, λ z m. m); flows = (λ z m. m, λ z m. m); upper_flows = (λ z m. m, λ z m. m); reads = (λ z m. m, λ z m. m); writes = (λ z m. m, λ z m. m) }

-- ---- what is listed of columns, kind by kind

list-append : (xs ys : List ProblemRow) (p : Problem) → list_rows (xs ++ ys) p ≡ list_rows ys (list_rows xs p)
unfolding list_rows
list-append [] ys p = refl
list-append (x ∷ xs) ys p = list-append xs ys (list_row x p)

module _ {A : Type 0} where
  append-nil : (l : List A) → l ++ [] ≡ l
  append-nil [] = refl
  append-nil (x ∷ l) = ap (λ (m : List A). x ∷ m) (append-nil l)

  append-one : (l : List A) (x : A) (m : List A) → (l ++ (x ∷ [])) ++ m ≡ l ++ (x ∷ m)
  append-one [] x m = refl
  append-one (y ∷ l) x m = ap (λ (k : List A). y ∷ k) (append-one l x m)

module _ (n : ℕ) where
  list-variables : (cs vs : List ℕ) (bs : List Bound) (fs us rs ws : List Pair) → list_rows (variable_rows cs) (make n vs bs fs us rs ws) ≡ make n (vs ++ cs) bs fs us rs ws
  unfolding list_rows variable_rows list_row
  list-variables [] vs bs fs us rs ws = ap (λ (l : List ℕ). make n l bs fs us rs ws) (sym (append-nil vs))
  list-variables (c ∷ cs) vs bs fs us rs ws = list-variables cs (vs ++ (c ∷ [])) bs fs us rs ws ∙ ap (λ (l : List ℕ). make n l bs fs us rs ws) (append-one vs c cs)

  list-bounds : (cs ks xs vs : List ℕ) (bs : List Bound) (fs us rs ws : List Pair) → list_rows (bound_rows cs ks xs) (make n vs bs fs us rs ws) ≡ make n vs (bs ++ bounds_of cs ks xs) fs us rs ws
  unfolding list_rows bound_rows list_row bounds_of
  list-bounds [] ks xs vs bs fs us rs ws = ap (λ (l : List Bound). make n vs l fs us rs ws) (sym (append-nil bs))
  list-bounds (c ∷ cs) [] xs vs bs fs us rs ws = ap (λ (l : List Bound). make n vs l fs us rs ws) (sym (append-nil bs))
  list-bounds (c ∷ cs) (k ∷ ks) [] vs bs fs us rs ws = ap (λ (l : List Bound). make n vs l fs us rs ws) (sym (append-nil bs))
  list-bounds (c ∷ cs) (k ∷ ks) (x ∷ xs) vs bs fs us rs ws =
      list-bounds cs ks xs vs (bs ++ (bound c k (type_of x) ∷ [])) fs us rs ws ∙ ap (λ (l : List Bound). make n vs l fs us rs ws) (append-one bs (bound c k (type_of x)) (bounds_of cs ks xs))

  -- one kind of pairs, by what a row of it adds
  module _ (row : ℕ → ℕ → ProblemRow) (place : List Pair → Problem) (adds : (a b : ℕ) (l : List Pair) → list_row (row a b) (place l) ≡ place (l ++ ((a, b) ∷ []))) where
    list-pairs : (xs ys : List ℕ) (l : List Pair) → list_rows (pair_rows row xs ys) (place l) ≡ place (l ++ pairs_of xs ys)
    unfolding list_rows pair_rows pairs_of
    list-pairs [] ys l = ap place (sym (append-nil l))
    list-pairs (x ∷ xs) [] l = ap place (sym (append-nil l))
    list-pairs (x ∷ xs) (y ∷ ys) l = ap (list_rows (pair_rows row xs ys)) (adds x y l) ∙ list-pairs xs ys (l ++ ((x, y) ∷ [])) ∙ ap place (append-one l (x, y) (pairs_of xs ys))

pub list-problem : (c : Columns) → list_rows (problem_in c) no_problem ≡ plain_problem c
unfolding problem_in list_rows list_row no_problem plain_problem
list-problem c =
    list-append (variable_rows c.variables) after4 (make n [] [] [] [] [] [])
    ∙ ap (list_rows after4) (list-variables n c.variables [] [] [] [] [] [])
    ∙ list-append (bound_rows c.bound_components c.bound_kinds c.bound_words) after5 (make n vs [] [] [] [] [])
    ∙ ap (list_rows after5) (list-bounds n c.bound_components c.bound_kinds c.bound_words vs [] [] [] [] [])
    ∙ list-append (pair_rows flow c.flow_sources c.flow_targets) after6 (make n vs bs [] [] [] [])
    ∙ ap (list_rows after6) (list-pairs n flow (λ l. make n vs bs l [] [] []) (λ a b l. refl) c.flow_sources c.flow_targets [])
    ∙ list-append (pair_rows upper_flow c.upper_sources c.upper_targets) after7 (make n vs bs fs [] [] [])
    ∙ ap (list_rows after7) (list-pairs n upper_flow (λ l. make n vs bs fs l [] []) (λ a b l. refl) c.upper_sources c.upper_targets [])
    ∙ list-append (pair_rows reading c.read_arrays c.read_results) after8 (make n vs bs fs us [] [])
    ∙ ap (list_rows after8) (list-pairs n reading (λ l. make n vs bs fs us l []) (λ a b l. refl) c.read_arrays c.read_results [])
    ∙ list-pairs n writing (λ l. make n vs bs fs us rs l) (λ a b l. refl) c.write_arrays c.write_values []
  where
    after8 : List ProblemRow
    after8 = pair_rows writing c.write_arrays c.write_values

    after7 : List ProblemRow
    after7 = pair_rows reading c.read_arrays c.read_results ++ after8

    after6 : List ProblemRow
    after6 = pair_rows upper_flow c.upper_sources c.upper_targets ++ after7

    after5 : List ProblemRow
    after5 = pair_rows flow c.flow_sources c.flow_targets ++ after6

    after4 : List ProblemRow
    after4 = bound_rows c.bound_components c.bound_kinds c.bound_words ++ after5

    n : ℕ
    n = c.components

    vs : List ℕ
    vs = c.variables

    bs : List Bound
    bs = bounds_of c.bound_components c.bound_kinds c.bound_words

    fs : List Pair
    fs = pairs_of c.flow_sources c.flow_targets

    us : List Pair
    us = pairs_of c.upper_sources c.upper_targets

    rs : List Pair
    rs = pairs_of c.read_arrays c.read_results

-- ---- A PROBLEM THAT IS TAKEN

module _ (names : ℕ) (c : Columns) (z : (problem names c).refusal ≡ 0) where
  -- has the rows that were given
  pub problem-same : SameRows (problem names c).problem (plain_problem c)
  unfolding problem
  problem-same =
      subst (λ (p : Problem). SameRows p (plain_problem c)) (sym (rows-taken names (problem_in c) no_problem z))
      (subst (SameRows (with_rows (problem_in c) no_problem)) (list-problem c) (same-rows (problem_in c) no_problem no_problem (same-self no_problem)))

  -- SO A SOLVE OF IT IS A SOLVE OF THEM
  pub problem-solves : (w : World) → solve w (problem names c).problem ≡ solve w (plain_problem c)
  problem-solves w = solve-same (problem names c).problem (plain_problem c) problem-same w

pair-set : (l : List Pair) → Ascending compare_pairs l → set_of compare_pairs l ≡ l
pair-set l g =
    same-members compare_pairs pairs-total (set_of compare_pairs l) l (set-ascending compare_pairs pairs-total l) g
    (λ z m. set-only compare_pairs z l m, λ z m. set-has compare_pairs pairs-total z l m)

-- what holds of a problem's rows holds of the same rows
module _ (names : ℕ) (p q : Problem) (h : Held names p) (s : SameRows p q) where
  pair-length : (l m : List Pair) → Ascending compare_pairs l → SameMembers l m → length (set_of compare_pairs m) ≡ length l
  pair-length l m g k = ap length (sym (set-same compare_pairs pairs-total l m k) ∙ pair-set l g)

  pub held-meant : Meant names q
  unfolding table_of
  held-meant =
      let ck = held-checked names p h in
      let e = s.components in
      let same = sym (set-same compare_bounds bounds-total p.bounds q.bounds s.bounds) in
      let a = pair-length p.flows q.flows h.flows.ascend s.flows in
      let b = pair-length p.upper_flows q.upper_flows h.upper_flows.ascend s.upper_flows in
      let d = pair-length p.reads q.reads h.reads.ascend s.reads in
      let f = pair-length p.writes q.writes h.writes.ascend s.writes in
      let fa = h.flows-few in
      let fb = h.upper-few in
      let fd = h.arrays-few in
      record {
        few = subst (λ (n : ℕ). n ≤ 512) e h.few;
        variables-few = subst (λ (l : List ℕ). length l ≤ 2048) s.variables h.variables-few;
        variables-in = λ v m. subst (λ (n : ℕ). v < n) e (h.variables-in v (subst (Memᴰ v) (sym s.variables) m));
        checked = record {
          bounds = λ x m. subst (λ (n : ℕ). LegalBound names n x) e (ck.bounds x (s.bounds.1 x m));
          few = subst (λ (l : List Bound). length l ≤ 4096) (sym same) ck.few;
          flows = λ r m. subst (λ (n : ℕ). In n r) e (ck.flows r (s.flows.1 r m));
          upper_flows = λ r m. subst (λ (n : ℕ). In n r) e (ck.upper_flows r (s.upper_flows.1 r m));
          reads = λ r m. subst (λ (n : ℕ). In n r) e (ck.reads r (s.reads.1 r m));
          writes = λ r m. subst (λ (n : ℕ). In n r) e (ck.writes r (s.writes.1 r m));
        };
        flows-few = omega arith;
        upper-few = omega arith;
        arrays-few = omega arith;
      }

-- WHAT A PROBLEM THAT IS TAKEN MEANS, over the rows that were given
pub problem-means : (names : ℕ) (c : Columns) → Words c.bound_words → (problem names c).refusal ≡ 0 → Meant names (plain_problem c)
problem-means names c w z = held-meant names (problem names c).problem (plain_problem c) (held-problem names c w) (problem-same names c z)
