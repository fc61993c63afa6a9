-- The solve of columns over a table as it was built: the checks from the problem's rows on, and the solve.
use Rattle.std.specs.Prelude.{◌≡◌, cond, true, List, ℕ, ◌-◌, ◌^◌, ◌≤◌, ◌<◌, eqb, length, take}
use Rattle.tables.specs.declared.Tables.{Tables}
use Rattle.tables.specs.Table.{marks_room}
use Rattle.lattice.specs.Lattice.{World}
use Rattle.solving.specs.Solving.{Problem, Solution, Unsolved, solve}
use Rattle.problems.specs.Problems.{Columns, problem, even_problem}
use Rattle.problems.specs.Kept.{problem_of, Keeps}
use Rattle.problemcolumns.specs.declared.ProblemCounts.{ProblemCounts}
use Rattle.solvechecks.specs.SolveChecks.{rows_refusal}
use Rattle.solving.specs.declared.Counts.{Counts}
use Rattle.lending.specs.Lending.{SliceIn, MutSliceIn, Slice, MutSlice, came}
use Rattle.problemcolumns.specs.ProblemColumns.{columns_asked, columns_by}
use Rattle.solves.specs.SolveResult.{Roomy, lent_asked, SolvesBy}
use Rattle.resolving.specs.Bounds.{Classes}

-- the front of a slice, as a part that begins at 0 holds it
abbrev pub front : ℕ → List ℕ → List ℕ
front n l = take (n - 0) l

-- so many entries stand in the slices
abbrev pub Fronts : ProblemCounts → List ℕ → List ℕ → List ℕ → List ℕ → List ℕ → Type 0
Fronts n bounds flows uppers reads writes =
    (n.bounds ≤ length bounds) × (n.flows ≤ length flows) × (n.uppers ≤ length uppers) × (n.reads ≤ length reads) × (n.writes ≤ length writes)

-- the problem that these keep
abbrev pub problem_front : ℕ → List ℕ → ProblemCounts → List ℕ → List ℕ → List ℕ → List ℕ → List ℕ → Problem
problem_front components variables n bounds flows uppers reads writes =
    problem_of components variables (front n.bounds bounds) (front n.flows flows) (front n.uppers uppers) (front n.reads reads) (front n.writes writes)

abbrev pub KeepsFront : ℕ → ℕ → List ℕ → ProblemCounts → List ℕ → List ℕ → List ℕ → List ℕ → List ℕ → Type 0
KeepsFront names components variables n bounds flows uppers reads writes =
    Keeps names components variables (front n.bounds bounds) (front n.flows flows) (front n.uppers uppers) (front n.reads reads) (front n.writes writes)

-- the refusal of the problem's rows over a table, or that it has no Object
abbrev pub columns_refusal : Tables → Columns → ℕ
columns_refusal t c = rows_refusal (problem t.names c).refusal t.object

-- THE SOLVE FROM THERE ON
unfoldable pub solve_rows : World → Tables → Columns → Solution
solve_rows w t c = cond (eqb (columns_refusal t c) 0) (solve w (problem t.names c).problem) (Unsolved (columns_refusal t c))

-- a table that was built: four sets of marks, few names, Object among them or all ones
abbrev pub Built : List ℕ → Tables → Type 0
Built marks t = (length marks ≡ marks_room) × (t.names ≤ 1024) × ((t.object ≡ 2 ^ 64 - 1 → ⊥) → t.object < t.names)

-- ---- of the slices that a function is lent

-- a table that was built, columns of equal length, and room for what is answered
abbrev pub AskedRows : SliceIn → Tables → ℕ → (vc bc bk bt fs fd us ud ra rr wa wv : SliceIn) → (answers oc ok ot work : MutSliceIn) → Type 0
AskedRows marks t n vc bc bk bt fs fd us ud ra rr wa wv answers oc ok ot work =
    Built marks.now t × (even_problem (columns_asked n vc bc bk bt fs fd us ud ra rr wa wv) ≡ true) × Roomy (length vc.now) (lent_asked answers oc ok ot work)

-- a table with classes, a problem that fronts keep, and room for what is answered
abbrev pub AskedFront : SliceIn → Tables → ℕ → SliceIn → ProblemCounts → (bounds flows uppers reads writes : SliceIn) → (answers oc ok ot work : MutSliceIn) → Type 0
AskedFront marks t components variables n bounds flows uppers reads writes answers oc ok ot work =
    Classes marks.now t × Fronts n bounds.now flows.now uppers.now reads.now writes.now
    × KeepsFront t.names components variables.now n bounds.now flows.now uppers.now reads.now writes.now
    × Roomy (length variables.now) (lent_asked answers oc ok ot work)

abbrev pub front_by : ℕ → Slice → ProblemCounts → (bounds flows uppers reads writes : Slice) → Problem
front_by components variables n bounds flows uppers reads writes = problem_front components (came variables) n (came bounds) (came flows) (came uppers) (came reads) (came writes)

abbrev pub SolvesRowsBy : World → Tables → ℕ → (vc bc bk bt fs fd us ud ra rr wa wv : Slice) → (answers oc ok ot work : MutSlice) → Counts → Type 0
SolvesRowsBy w t n vc bc bk bt fs fd us ud ra rr wa wv answers oc ok ot work =
    SolvesBy (solve_rows w t (columns_by n vc bc bk bt fs fd us ud ra rr wa wv)) answers oc ok ot work
