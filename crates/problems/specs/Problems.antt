-- What a row of a problem is refused for, and what it makes of the problem: one function a kind, on plain lists of distinct entries.
-- The columns of a problem are such rows, in order of kind. Every definition that a contract cites.
use Rattle.std.specs.Prelude.{Bool, cond, not, ◌&&◌, List, [], ◌∷◌, ◌++◌, ℕ, ◌+◌, eqb, leb, ltb, length}
use Rattle.ty.specs.Words.{legal_word, type_of}
use Rattle.checks.specs.Checks.{Check, check, first_refusal}
use Rattle.solving.specs.Ordered.{insert}
use Rattle.solving.specs.Solving.{Bound, bound, compare_bounds, Pair, compare_pairs, Problem}

-- ---- a row

-- by kind: 03 component count; 04 a variable's component; 05 component, bound kind, word; 06 flow source, target; 07 upper flow;
-- 08 read array, result; 09 write array, value
pub data ProblemRow : Type 0 where
  counted : ℕ → ProblemRow
  variable : ℕ → ProblemRow
  bounded : ℕ → ℕ → ℕ → ProblemRow
  flow : ℕ → ℕ → ProblemRow
  upper_flow : ℕ → ℕ → ProblemRow
  reading : ℕ → ℕ → ProblemRow
  writing : ℕ → ℕ → ProblemRow

-- before the first row. Bounds, flows, upper flows, reads and writes are kept ascending, each once; variables in the order given.
unfoldable pub no_problem : Problem
no_problem = record { components = 0; variables = []; bounds = []; flows = []; upper_flows = []; reads = []; writes = [] }

-- one entry more; nothing changes where it is there
abbrev pub with_bound : Bound → Problem → Problem
with_bound b p = record { components = p.components; variables = p.variables; bounds = insert compare_bounds b p.bounds; flows = p.flows; upper_flows = p.upper_flows; reads = p.reads; writes = p.writes }

abbrev pub with_flow : Pair → Problem → Problem
with_flow r p = record { components = p.components; variables = p.variables; bounds = p.bounds; flows = insert compare_pairs r p.flows; upper_flows = p.upper_flows; reads = p.reads; writes = p.writes }

abbrev pub with_upper_flow : Pair → Problem → Problem
with_upper_flow r p = record { components = p.components; variables = p.variables; bounds = p.bounds; flows = p.flows; upper_flows = insert compare_pairs r p.upper_flows; reads = p.reads; writes = p.writes }

abbrev pub with_read : Pair → Problem → Problem
with_read r p = record { components = p.components; variables = p.variables; bounds = p.bounds; flows = p.flows; upper_flows = p.upper_flows; reads = insert compare_pairs r p.reads; writes = p.writes }

abbrev pub with_write : Pair → Problem → Problem
with_write r p = record { components = p.components; variables = p.variables; bounds = p.bounds; flows = p.flows; upper_flows = p.upper_flows; reads = p.reads; writes = insert compare_pairs r p.writes }

abbrev pub with_variable : ℕ → Problem → Problem
with_variable c p = record { components = p.components; variables = p.variables ++ (c ∷ []); bounds = p.bounds; flows = p.flows; upper_flows = p.upper_flows; reads = p.reads; writes = p.writes }

abbrev pub with_count : ℕ → Problem → Problem
with_count n p = record { components = n; variables = p.variables; bounds = p.bounds; flows = p.flows; upper_flows = p.upper_flows; reads = p.reads; writes = p.writes }

-- the problem with a row
unfoldable pub with_row : ProblemRow → Problem → Problem
with_row (counted n) p = with_count n p
with_row (variable c) p = with_variable c p
with_row (bounded c k w) p = with_bound (bound c k (type_of w)) p
with_row (flow a b) p = with_flow (a, b) p
with_row (upper_flow a b) p = with_upper_flow (a, b) p
with_row (reading a b) p = with_read (a, b) p
with_row (writing a b) p = with_write (a, b) p

-- both are components
abbrev pub among : Problem → ℕ → ℕ → Bool
among p a b = ltb a p.components && ltb b p.components

-- what is refused of a row, in this order: NUMBER, TYPE, ROOM. Entries are counted as they would stand after it, so one that is there
-- already is never refused 8 (`room-exactly`); a variable is never there already; reads and writes have one room.
unfoldable pub row_checks : ℕ → ProblemRow → Problem → List Check
row_checks names (counted n) p = check (ltb 512 n) 8 ∷ []
row_checks names (variable c) p = check (not (ltb c p.components)) 6 ∷ check (leb 2048 (length p.variables)) 8 ∷ []
row_checks names (bounded c k w) p =
    check (not (ltb c p.components && leb k 4)) 6
    ∷ check (not (legal_word names w)) 7
    ∷ check (ltb 4096 (length (insert compare_bounds (bound c k (type_of w)) p.bounds))) 8
    ∷ []
row_checks names (flow a b) p = check (not (among p a b)) 6 ∷ check (ltb 2048 (length (insert compare_pairs (a, b) p.flows))) 8 ∷ []
row_checks names (upper_flow a b) p = check (not (among p a b)) 6 ∷ check (ltb 1024 (length (insert compare_pairs (a, b) p.upper_flows))) 8 ∷ []
row_checks names (reading a b) p = check (not (among p a b)) 6 ∷ check (ltb 1024 (length (insert compare_pairs (a, b) p.reads) + length p.writes)) 8 ∷ []
row_checks names (writing a b) p = check (not (among p a b)) 6 ∷ check (ltb 1024 (length p.reads + length (insert compare_pairs (a, b) p.writes))) 8 ∷ []

unfoldable pub row_refusal : ℕ → ProblemRow → Problem → ℕ
row_refusal names r p = first_refusal (row_checks names r p)

-- ---- ONE ROW: a refusal and the problem after it; a refused row leaves it

pub record Placed : Type 0 where
  pub refusal : ℕ
  pub problem : Problem

unfoldable pub problem_row : ℕ → ProblemRow → Problem → Placed
problem_row names r p = record { refusal = row_refusal names r p; problem = cond (eqb (row_refusal names r p) 0) (with_row r p) p }

-- row by row; the first refusal ends
unfoldable pub problem_rows : ℕ → List ProblemRow → Problem → Placed
problem_rows names [] p = record { refusal = 0; problem = p }
problem_rows names (r ∷ rs) p = cond (eqb (problem_row names r p).refusal 0) (problem_rows names rs (problem_row names r p).problem) (problem_row names r p)

-- ---- columns

pub record Columns : Type 0 where
  pub components : ℕ
  pub variables : List ℕ
  pub bound_components : List ℕ
  pub bound_kinds : List ℕ
  pub bound_words : List ℕ
  pub flow_sources : List ℕ
  pub flow_targets : List ℕ
  pub upper_sources : List ℕ
  pub upper_targets : List ℕ
  pub read_arrays : List ℕ
  pub read_results : List ℕ
  pub write_arrays : List ℕ
  pub write_values : List ℕ

-- bounds have three columns of equal length, flows, upper flows, reads and writes two each
unfoldable pub even_problem : Columns → Bool
even_problem c =
    (eqb (length c.bound_components) (length c.bound_kinds) && eqb (length c.bound_components) (length c.bound_words))
    && (eqb (length c.flow_sources) (length c.flow_targets)
    && (eqb (length c.upper_sources) (length c.upper_targets)
    && (eqb (length c.read_arrays) (length c.read_results) && eqb (length c.write_arrays) (length c.write_values))))

unfoldable pub variable_rows : List ℕ → List ProblemRow
variable_rows [] = []
variable_rows (c ∷ cs) = variable c ∷ variable_rows cs

unfoldable pub bound_rows : List ℕ → List ℕ → List ℕ → List ProblemRow
bound_rows [] ks ws = []
bound_rows (c ∷ cs) [] ws = []
bound_rows (c ∷ cs) (k ∷ ks) [] = []
bound_rows (c ∷ cs) (k ∷ ks) (w ∷ ws) = bounded c k w ∷ bound_rows cs ks ws

unfoldable pub pair_rows : (ℕ → ℕ → ProblemRow) → List ℕ → List ℕ → List ProblemRow
pair_rows row [] ys = []
pair_rows row (x ∷ xs) [] = []
pair_rows row (x ∷ xs) (y ∷ ys) = row x y ∷ pair_rows row xs ys

-- in order of kind
unfoldable pub problem_in : Columns → List ProblemRow
problem_in c =
    counted c.components
    ∷ (variable_rows c.variables
    ++ (bound_rows c.bound_components c.bound_kinds c.bound_words
    ++ (pair_rows flow c.flow_sources c.flow_targets
    ++ (pair_rows upper_flow c.upper_sources c.upper_targets
    ++ (pair_rows reading c.read_arrays c.read_results ++ pair_rows writing c.write_arrays c.write_values)))))

-- THE PROBLEM FROM COLUMNS is the fold of its rows
unfoldable pub problem : ℕ → Columns → Placed
problem names c = problem_rows names (problem_in c) no_problem
