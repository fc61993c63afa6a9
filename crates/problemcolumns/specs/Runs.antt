-- The rows of columns, kind by kind, on the entries of their kind: what the contracts of the inner functions cite.
use Rattle.std.specs.Prelude.{◌≡◌, cond, List, [], ◌∷◌, ℕ, ◌-◌, eqb, length}
use Rattle.rows.specs.Rows.{filled}
use Rattle.problems.specs.Problems.{Columns}
use Rattle.problemrows.specs.ProblemRows.{Ran, refused, taken, count_refusal, variable_row, pair_row, bound_row}
use Rattle.problemcolumns.specs.declared.ProblemCounts.{ProblemCounts}
use Rattle.lending.specs.Lending.{MutSlice, came_mut, became}

-- row by row; the first refusal ends
unfoldable pub variable_run : ℕ → List ℕ → List ℕ → Ran
variable_run components [] l = taken l
variable_run components (c ∷ cs) l = cond (eqb (variable_row components c l).refusal 0) (variable_run components cs (variable_row components c l).entries) (variable_row components c l)

unfoldable pub bound_run : ℕ → ℕ → List ℕ → List ℕ → List ℕ → List ℕ → Ran
bound_run names components [] ks ws l = taken l
bound_run names components (c ∷ cs) [] ws l = taken l
bound_run names components (c ∷ cs) (k ∷ ks) [] l = taken l
bound_run names components (c ∷ cs) (k ∷ ks) (w ∷ ws) l =
    cond (eqb (bound_row names components c k w l).refusal 0) (bound_run names components cs ks ws (bound_row names components c k w l).entries) (bound_row names components c k w l)

unfoldable pub pair_run : ℕ → ℕ → List ℕ → List ℕ → List ℕ → Ran
pair_run components room [] ys l = taken l
pair_run components room (x ∷ xs) [] l = taken l
pair_run components room (x ∷ xs) (y ∷ ys) l = cond (eqb (pair_row components room x y l).refusal 0) (pair_run components room xs ys (pair_row components room x y l).entries) (pair_row components room x y l)

-- the count, and the variables after it
unfoldable pub head_refusal : ℕ → List ℕ → ℕ
head_refusal components variables = cond (eqb (count_refusal components) 0) (variable_run components variables []).refusal (count_refusal components)

-- one kind after others: no row is read where one of those was refused
unfoldable pub after : ℕ → Ran → Ran
after refusal s = cond (eqb refusal 0) s (refused refusal [])

-- ---- kind after kind

unfoldable pub bounds_ran : ℕ → Columns → Ran
bounds_ran names c = bound_run names c.components c.bound_components c.bound_kinds c.bound_words []

unfoldable pub flows_ran : ℕ → Columns → Ran
flows_ran names c = after (bounds_ran names c).refusal (pair_run c.components 2048 c.flow_sources c.flow_targets [])

unfoldable pub uppers_ran : ℕ → Columns → Ran
uppers_ran names c = after (flows_ran names c).refusal (pair_run c.components 1024 c.upper_sources c.upper_targets [])

unfoldable pub reads_ran : ℕ → Columns → Ran
reads_ran names c = after (uppers_ran names c).refusal (pair_run c.components 1024 c.read_arrays c.read_results [])

unfoldable pub writes_ran : ℕ → Columns → Ran
writes_ran names c = after (reads_ran names c).refusal (pair_run c.components (1024 - length (reads_ran names c).entries) c.write_arrays c.write_values [])

-- what they leave
pub record Enters (names : ℕ) (c : Columns) (bounds bounds' flows flows' uppers uppers' reads reads' writes writes' : List ℕ) (r : ProblemCounts) : Type 0 where
  pub counts-are : r ≡ record {
    refusal = (writes_ran names c).refusal;
    bounds = length (bounds_ran names c).entries;
    flows = length (flows_ran names c).entries;
    uppers = length (uppers_ran names c).entries;
    reads = length (reads_ran names c).entries;
    writes = length (writes_ran names c).entries;
  }
  pub bounds-are : bounds' ≡ filled (bounds_ran names c).entries bounds
  pub flows-are : flows' ≡ filled (flows_ran names c).entries flows
  pub uppers-are : uppers' ≡ filled (uppers_ran names c).entries uppers
  pub reads-are : reads' ≡ filled (reads_ran names c).entries reads
  pub writes-are : writes' ≡ filled (writes_ran names c).entries writes

-- of the slices that a function is lent
abbrev pub EntersBy : ℕ → Columns → (bounds flows uppers reads writes : MutSlice) → ProblemCounts → Type 0
EntersBy names c bounds flows uppers reads writes = Enters names c (came_mut bounds) (became bounds) (came_mut flows) (became flows) (came_mut uppers) (became uppers) (came_mut reads) (became reads) (came_mut writes) (became writes)
