-- A PROBLEM THAT IS TAKEN IS THE ONE THAT ITS ROWS LIST: the same rows, in any order and with any repeats, so a solve of it is the solve of
-- what was given.
use Rattle.std.specs.Prelude.{ℕ, ◌+◌, ◌≤◌, ◌<◌}
use mathlib.Core.List.Memᴰ
use mathlib.Core.List.{List, [], ◌∷◌, ◌++◌, Memᴰ}
use Rattle.std.proofs.Math.ListN.{length}
use Rattle.ty.specs.Words.{type_of}
use Rattle.solving.specs.Ordered.{set_of}
use Rattle.solving.specs.Solving.{Bound, bound, Pair, compare_pairs, Problem}
use Rattle.solving.specs.Solve.{Checked}
use Rattle.problems.specs.Problems.{ProblemRow, counted, variable, bounded, flow, upper_flow, reading, writing, with_count, with_variable, with_row, Columns}

-- ---- WHAT COLUMNS LIST, row by row, as they stand

unfoldable pub bounds_of : List ℕ → List ℕ → List ℕ → List Bound
bounds_of [] ks ws = []
bounds_of (c ∷ cs) [] ws = []
bounds_of (c ∷ cs) (k ∷ ks) [] = []
bounds_of (c ∷ cs) (k ∷ ks) (w ∷ ws) = bound c k (type_of w) ∷ bounds_of cs ks ws

unfoldable pub pairs_of : List ℕ → List ℕ → List Pair
pairs_of [] ys = []
pairs_of (x ∷ xs) [] = []
pairs_of (x ∷ xs) (y ∷ ys) = (x, y) ∷ pairs_of xs ys

unfoldable pub plain_problem : Columns → Problem
plain_problem c = record {
  components = c.components;
  variables = c.variables;
  bounds = bounds_of c.bound_components c.bound_kinds c.bound_words;
  flows = pairs_of c.flow_sources c.flow_targets;
  upper_flows = pairs_of c.upper_sources c.upper_targets;
  reads = pairs_of c.read_arrays c.read_results;
  writes = pairs_of c.write_arrays c.write_values;
}

-- ---- a row at the end of what is listed

unfoldable pub list_row : ProblemRow → Problem → Problem
list_row (counted n) p = with_count n p
list_row (variable c) p = with_variable c p
list_row (bounded c k w) p = record { components = p.components; variables = p.variables; bounds = p.bounds ++ (bound c k (type_of w) ∷ []); flows = p.flows; upper_flows = p.upper_flows; reads = p.reads; writes = p.writes }
list_row (flow a b) p = record { components = p.components; variables = p.variables; bounds = p.bounds; flows = p.flows ++ ((a, b) ∷ []); upper_flows = p.upper_flows; reads = p.reads; writes = p.writes }
list_row (upper_flow a b) p = record { components = p.components; variables = p.variables; bounds = p.bounds; flows = p.flows; upper_flows = p.upper_flows ++ ((a, b) ∷ []); reads = p.reads; writes = p.writes }
list_row (reading a b) p = record { components = p.components; variables = p.variables; bounds = p.bounds; flows = p.flows; upper_flows = p.upper_flows; reads = p.reads ++ ((a, b) ∷ []); writes = p.writes }
list_row (writing a b) p = record { components = p.components; variables = p.variables; bounds = p.bounds; flows = p.flows; upper_flows = p.upper_flows; reads = p.reads; writes = p.writes ++ ((a, b) ∷ []) }

unfoldable pub list_rows : List ProblemRow → Problem → Problem
list_rows [] p = p
list_rows (r ∷ rs) p = list_rows rs (list_row r p)

unfoldable pub with_rows : List ProblemRow → Problem → Problem
with_rows [] p = p
with_rows (r ∷ rs) p = with_rows rs (with_row r p)

abbrev pub make : ℕ → List ℕ → List Bound → List Pair → List Pair → List Pair → List Pair → Problem
make n vs bs fs us rs ws = record { components = n; variables = vs; bounds = bs; flows = fs; upper_flows = us; reads = rs; writes = ws }

-- what is given is then within the limits, counted without repeats
pub record Meant (names : ℕ) (p : Problem) : Type 0 where
  pub few : p.components ≤ 512
  pub variables-few : length p.variables ≤ 2048
  pub variables-in : (v : ℕ) → Memᴰ v p.variables → v < p.components
  pub checked : Checked names p
  pub flows-few : length (set_of compare_pairs p.flows) ≤ 2048
  pub upper-few : length (set_of compare_pairs p.upper_flows) ≤ 1024
  pub arrays-few : length (set_of compare_pairs p.reads) + length (set_of compare_pairs p.writes) ≤ 1024
