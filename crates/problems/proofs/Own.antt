-- A PROBLEM THAT ROWS MADE PASSES THE CHECKS OF COLUMNS: written as columns it is taken, and is the same problem. So every state that
-- frames reach may be handed to the functions over slices.
use Rattle.std.specs.Prelude.{◌≡◌, refl}
use Rattle.std.proofs.Common.{sym, ap, ap₂, ◌∙◌, subst, arith}
use mathlib.Core.List.{List, [], ◌∷◌, ◌++◌, Memᴰ}
use Prim.Native.Nat.{ℕ, ◌≤◌, ◌<◌}
use Rattle.ty.specs.Types.{ArgType}
use Rattle.ty.specs.Words.{type_of}
use Rattle.ty.specs.Round.{type-of-word, legal-of-type}
use Rattle.solving.proofs.OrderedLaws.{insert-ascending, same-members}
use Rattle.solving.proofs.Orders.{bounds-total, pairs-total}
use Rattle.solving.specs.Tidy.{LegalBound}
use Rattle.solving.specs.Solving.{Bound, bound, compare_bounds, Pair, compare_pairs, Problem}
use Rattle.solving.specs.Solve.{SameRows}
use Rattle.problems.specs.Problems.{ProblemRow, counted, variable, bounded, flow, upper_flow, reading, writing, no_problem, with_count, with_row, variable_rows, bound_rows, pair_rows, problem_in, problem}
use Rattle.problems.specs.Held.{Held}
use Rattle.problems.specs.Plain.{bounds_of, pairs_of, plain_problem, with_rows}
use Rattle.problems.proofs.Plain.{same-rows, list-problem, rows-taken}
use Rattle.problems.specs.Exact.{InRange, AllInRange, Roomy, later_rows}
use Rattle.problems.proofs.Exact.{allowed-taken}
use Rattle.problems.specs.Own.{firsts, seconds, bound_components_of, bound_kinds_of, bound_words_of, own_columns, Ascends}

pairs-again : (l : List Pair) → pairs_of (firsts l) (seconds l) ≡ l
unfolding pairs_of firsts seconds
pairs-again [] = refl
pairs-again (r ∷ l) = ap (λ (m : List Pair). r ∷ m) (pairs-again l)

bounds-again : (names n : ℕ) (l : List Bound) → names ≤ 1024 → ((b : Bound) → Memᴰ b l → LegalBound names n b) → bounds_of (bound_components_of l) (bound_kinds_of l) (bound_words_of l) ≡ l
unfolding bounds_of bound_components_of bound_kinds_of bound_words_of
bounds-again names n [] few h = refl
bounds-again names n (b ∷ l) few h =
    ap₂ (λ (t : ArgType) (m : List Bound). bound b.component b.kind t ∷ m)
    (type-of-word names b.type (omega arith) (h b (Memᴰ.head refl)).type) (bounds-again names n l few (λ x m. h x (Memᴰ.tail m)))

-- ---- ranges

range-append : (names n : ℕ) (xs ys : List ProblemRow) → AllInRange names n xs → AllInRange names n ys → AllInRange names n (xs ++ ys)
range-append names n [] ys h k = k
range-append names n (x ∷ xs) ys h k = (h.0, range-append names n xs ys h.1 k)

range-variables : (names n : ℕ) (cs : List ℕ) → ((c : ℕ) → Memᴰ c cs → c < n) → AllInRange names n (variable_rows cs)
unfolding variable_rows
range-variables names n [] h = tt
range-variables names n (c ∷ cs) h = (h c (Memᴰ.head refl), range-variables names n cs (λ x m. h x (Memᴰ.tail m)))

range-bounds : (names n : ℕ) (l : List Bound) → names ≤ 1024 → ((b : Bound) → Memᴰ b l → LegalBound names n b) → AllInRange names n (bound_rows (bound_components_of l) (bound_kinds_of l) (bound_words_of l))
unfolding bound_rows bound_components_of bound_kinds_of bound_words_of
range-bounds names n [] few h = tt
range-bounds names n (b ∷ l) few h =
    let g = h b (Memᴰ.head refl) in
    let k = g.kind in
    ((g.component, omega arith, legal-of-type names b.type (omega arith) g.type), range-bounds names n l few (λ x m. h x (Memᴰ.tail m)))

range-pairs : (names n : ℕ) (make : ℕ → ℕ → ProblemRow) → ((a b : ℕ) → a < n → b < n → InRange names n (make a b)) → (l : List Pair) → ((r : Pair) → Memᴰ r l → (r.0 < n) × (r.1 < n))
    → AllInRange names n (pair_rows make (firsts l) (seconds l))
unfolding pair_rows firsts seconds
range-pairs names n make e [] h = tt
range-pairs names n make e (r ∷ l) h =
    let i = h r (Memᴰ.head refl) in
    (e r.0 r.1 i.0 i.1, range-pairs names n make e l (λ x m. h x (Memᴰ.tail m)))

ascends-row : (r : ProblemRow) (p : Problem) → Ascends p → Ascends (with_row r p)
unfolding with_row
ascends-row (counted n) p a = record { bounds = a.bounds; flows = a.flows; upper_flows = a.upper_flows; reads = a.reads; writes = a.writes }
ascends-row (variable c) p a = record { bounds = a.bounds; flows = a.flows; upper_flows = a.upper_flows; reads = a.reads; writes = a.writes }
ascends-row (bounded c k w) p a = record { bounds = insert-ascending compare_bounds bounds-total (bound c k (type_of w)) p.bounds a.bounds; flows = a.flows; upper_flows = a.upper_flows; reads = a.reads; writes = a.writes }
ascends-row (flow x y) p a = record { bounds = a.bounds; flows = insert-ascending compare_pairs pairs-total (x, y) p.flows a.flows; upper_flows = a.upper_flows; reads = a.reads; writes = a.writes }
ascends-row (upper_flow x y) p a = record { bounds = a.bounds; flows = a.flows; upper_flows = insert-ascending compare_pairs pairs-total (x, y) p.upper_flows a.upper_flows; reads = a.reads; writes = a.writes }
ascends-row (reading x y) p a = record { bounds = a.bounds; flows = a.flows; upper_flows = a.upper_flows; reads = insert-ascending compare_pairs pairs-total (x, y) p.reads a.reads; writes = a.writes }
ascends-row (writing x y) p a = record { bounds = a.bounds; flows = a.flows; upper_flows = a.upper_flows; reads = a.reads; writes = insert-ascending compare_pairs pairs-total (x, y) p.writes a.writes }

ascends-rows : (rs : List ProblemRow) (p : Problem) → Ascends p → Ascends (with_rows rs p)
unfolding with_rows
ascends-rows [] p a = a
ascends-rows (r ∷ rs) p a = ascends-rows rs (with_row r p) (ascends-row r p a)

ascends-none : Ascends no_problem
unfolding no_problem
ascends-none = record { bounds = tt; flows = tt; upper_flows = tt; reads = tt; writes = tt }

-- the same rows, both ascending, are the same problem
same-problem : (p q : Problem) → Ascends p → Ascends q → SameRows p q → p ≡ q
same-problem p q a b s =
    let x = same-members compare_bounds bounds-total p.bounds q.bounds a.bounds b.bounds s.bounds in
    let f = same-members compare_pairs pairs-total p.flows q.flows a.flows b.flows s.flows in
    let u = same-members compare_pairs pairs-total p.upper_flows q.upper_flows a.upper_flows b.upper_flows s.upper_flows in
    let r = same-members compare_pairs pairs-total p.reads q.reads a.reads b.reads s.reads in
    let w = same-members compare_pairs pairs-total p.writes q.writes a.writes b.writes s.writes in
    λ i. record { components = s.components i; variables = s.variables i; bounds = x i; flows = f i; upper_flows = u i; reads = r i; writes = w i }

same-self : (p : Problem) → SameRows p p
same-self p = record { components = refl; variables = refl; bounds = (λ z m. m, λ z m. m); flows = (λ z m. m, λ z m. m); upper_flows = (λ z m. m, λ z m. m); reads = (λ z m. m, λ z m. m); writes = (λ z m. m, λ z m. m) }

held-ascends : (names : ℕ) (p : Problem) → Held names p → Ascends p
held-ascends names p h = record { bounds = h.bounds-ascend; flows = h.flows.ascend; upper_flows = h.upper_flows.ascend; reads = h.reads.ascend; writes = h.writes.ascend }

module _ (names : ℕ) (few : names ≤ 1024) (p : Problem) (h : Held names p) where
  own-plain : plain_problem (own_columns p) ≡ p
  unfolding plain_problem own_columns
  own-plain =
      let b = bounds-again names p.components p.bounds few h.bounds-legal in
      let f = pairs-again p.flows in
      let u = pairs-again p.upper_flows in
      let r = pairs-again p.reads in
      let w = pairs-again p.writes in
      λ i. record { components = p.components; variables = p.variables; bounds = b i; flows = f i; upper_flows = u i; reads = r i; writes = w i }

  -- put in row by row it is the problem again
  own-rows : with_rows (problem_in (own_columns p)) no_problem ≡ p
  own-rows =
      same-problem (with_rows (problem_in (own_columns p)) no_problem) p (ascends-rows (problem_in (own_columns p)) no_problem ascends-none) (held-ascends names p h)
      (subst (SameRows (with_rows (problem_in (own_columns p)) no_problem)) (list-problem (own_columns p) ∙ own-plain) (same-rows (problem_in (own_columns p)) no_problem no_problem (same-self no_problem)))

  own-later : with_rows (later_rows (own_columns p)) (with_count (own_columns p).components no_problem) ≡ p
  unfolding later_rows problem_in with_rows with_row
  own-later = own-rows

  own-ranges : AllInRange names (own_columns p).components (later_rows (own_columns p))
  unfolding later_rows own_columns
  own-ranges =
      range-append names n (variable_rows p.variables) _ (range-variables names n p.variables h.variables-in)
      (range-append names n (bound_rows (bound_components_of p.bounds) (bound_kinds_of p.bounds) (bound_words_of p.bounds)) _ (range-bounds names n p.bounds few h.bounds-legal)
      (range-append names n (pair_rows flow (firsts p.flows) (seconds p.flows)) _ (range-pairs names n flow (λ a b x y. (x, y)) p.flows h.flows.within)
      (range-append names n (pair_rows upper_flow (firsts p.upper_flows) (seconds p.upper_flows)) _ (range-pairs names n upper_flow (λ a b x y. (x, y)) p.upper_flows h.upper_flows.within)
      (range-append names n (pair_rows reading (firsts p.reads) (seconds p.reads)) _ (range-pairs names n reading (λ a b x y. (x, y)) p.reads h.reads.within)
      (range-pairs names n writing (λ a b x y. (x, y)) p.writes h.writes.within)))))
    where
      n : ℕ
      n = p.components

  own-few : (own_columns p).components ≤ 512
  unfolding own_columns
  own-few = h.few

  -- IT IS TAKEN
  pub own-taken : (problem names (own_columns p)).refusal ≡ 0
  own-taken =
      allowed-taken names (own_columns p) (record {
        few = own-few;
        ranges = own-ranges;
        room = subst Roomy (sym own-later) (record { variables = h.variables-few; bounds = h.bounds-few; flows = h.flows-few; upper_flows = h.upper-few; arrays = h.arrays-few });
      })

  -- AND IS THE SAME PROBLEM
  pub own-problem : (problem names (own_columns p)).problem ≡ p
  unfolding problem
  own-problem = rows-taken names (problem_in (own_columns p)) no_problem own-taken ∙ own-rows
