-- THE PROBLEM THAT COLUMNS GIVE, IN LENT SLICES: what a caller of this crate must believe.
use Rattle.std.specs.Prelude.{◌≡◌, Bool, ◌&&◌, List, map, ℕ, ◌≤◌, eqb, length, take}
use Rattle.solving.specs.TableKeys.{keys_of}
use Rattle.rows.specs.Rows.{filled}
use Rattle.problems.specs.Problems.{Columns, Placed, problem}
use Rattle.problems.specs.Stored.{pair_key}
use Rattle.problems.specs.Kept.{problem_of, Keeps}
use Rattle.problemcolumns.specs.declared.ProblemCounts.{ProblemCounts}
use Rattle.lending.specs.Lending.{SliceIn, Slice, MutSlice, came, came_mut, became}

-- the columns that slices are, in the order of the parameters
abbrev pub columns_in : ℕ → List ℕ → List ℕ → List ℕ → List ℕ → List ℕ → List ℕ → List ℕ → List ℕ → List ℕ → List ℕ → List ℕ → List ℕ → Columns
columns_in components variables bound_components bound_kinds bound_words flow_sources flow_targets upper_sources upper_targets read_arrays read_results write_arrays write_values = record {
  components = components;
  variables = variables;
  bound_components = bound_components;
  bound_kinds = bound_kinds;
  bound_words = bound_words;
  flow_sources = flow_sources;
  flow_targets = flow_targets;
  upper_sources = upper_sources;
  upper_targets = upper_targets;
  read_arrays = read_arrays;
  read_results = read_results;
  write_arrays = write_arrays;
  write_values = write_values;
}

-- the columns that a function is lent, as `requires` has them, and as `ensures` has them: as they came. Parameters stand here, and where they are
-- handed on, by the initials of their names: vc is var_comp
abbrev pub columns_asked : ℕ → (vc bc bk bt fs fd us ud ra rr wa wv : SliceIn) → Columns
columns_asked n vc bc bk bt fs fd us ud ra rr wa wv = columns_in n vc.now bc.now bk.now bt.now fs.now fd.now us.now ud.now ra.now rr.now wa.now wv.now

abbrev pub columns_by : ℕ → (vc bc bk bt fs fd us ud ra rr wa wv : Slice) → Columns
columns_by n vc bc bk bt fs fd us ud ra rr wa wv = columns_in n (came vc) (came bc) (came bk) (came bt) (came fs) (came fd) (came us) (came ud) (came ra) (came rr) (came wa) (came wv)

-- `even_problem`, of the lengths
unfoldable pub even_rows : ℕ → ℕ → ℕ → ℕ → ℕ → ℕ → ℕ → ℕ → ℕ → ℕ → ℕ → Bool
even_rows bc bk bw fs ft us ut ra rr wa wv = (eqb bc bk && eqb bc bw) && (eqb fs ft && (eqb us ut && (eqb ra rr && eqb wa wv)))

-- slices with room for every problem
abbrev pub Roomy : List ℕ → List ℕ → List ℕ → List ℕ → List ℕ → Type 0
Roomy bounds flows uppers reads writes = (4096 ≤ length bounds) × (2048 ≤ length flows) × (1024 ≤ length uppers) × (1024 ≤ length reads) × (1024 ≤ length writes)

-- the refusal, and how many entries of each kind stand in the problem then
unfoldable pub counts_of : Placed → ProblemCounts
counts_of p = record {
  refusal = p.refusal;
  bounds = length p.problem.bounds;
  flows = length p.problem.flows;
  uppers = length p.problem.upper_flows;
  reads = length p.problem.reads;
  writes = length p.problem.writes;
}

-- WHAT IS HANDED BACK: the refusal of the columns; and in front of each slice as it came what the rows before the refusal have made. Where
-- nothing is refused, the slices keep the problem
pub record Taken (names : ℕ) (c : Columns) (bounds bounds' flows flows' uppers uppers' reads reads' writes writes' : List ℕ) (r : ProblemCounts) : Type 0 where
  pub counts-are : r ≡ counts_of (problem names c)
  pub bounds-are : bounds' ≡ filled (keys_of (problem names c).problem.bounds) bounds
  pub flows-are : flows' ≡ filled (map pair_key (problem names c).problem.flows) flows
  pub uppers-are : uppers' ≡ filled (map pair_key (problem names c).problem.upper_flows) uppers
  pub reads-are : reads' ≡ filled (map pair_key (problem names c).problem.reads) reads
  pub writes-are : writes' ≡ filled (map pair_key (problem names c).problem.writes) writes
  pub problem-is : r.refusal ≡ 0
      → problem_of c.components c.variables (take r.bounds bounds') (take r.flows flows') (take r.uppers uppers') (take r.reads reads') (take r.writes writes')
      ≡ (problem names c).problem
  pub keeps : r.refusal ≡ 0
      → Keeps names c.components c.variables (take r.bounds bounds') (take r.flows flows') (take r.uppers uppers') (take r.reads reads') (take r.writes writes')

-- of the slices that a function is lent
abbrev pub TakenBy : ℕ → Columns → (bounds flows uppers reads writes : MutSlice) → ProblemCounts → Type 0
TakenBy names c bounds flows uppers reads writes = Taken names c (came_mut bounds) (became bounds) (came_mut flows) (became flows) (came_mut uppers) (became uppers) (came_mut reads) (became reads) (came_mut writes) (became writes)
