-- The solve where no slice is too short: what the laws lead every way through the door to.
use Rattle.std.specs.Prelude.{cond, true, eqb, ℕ, ◌≡◌, length}
use Rattle.checks.specs.Checks.{first_refusal}
use Rattle.columns.specs.declared.TableColumns.{TableColumns}
use Rattle.columns.specs.Given.{Given, given_of, no_marks}
use Rattle.tableview.specs.TableRows.{rows_world}
use Rattle.stackview.specs.LayerRows.{shown_in}
use Rattle.solving.specs.Solving.{Solution, Unsolved, solve}
use Rattle.problems.specs.Problems.{Columns, even_problem}
use Rattle.solvedoor.specs.SolveDoor.{problem_over, solve_checks}
use Rattle.solving.specs.declared.Counts.{Counts}
use Rattle.lending.specs.Lending.{Slice, SliceIn, MutSlice, MutSliceIn}
use Rattle.problemcolumns.specs.ProblemColumns.{columns_by, columns_asked}
use Rattle.solves.specs.SolveResult.{SolvesBy, Roomy, lent_asked}
use Rattle.layercolumns.specs.LayerColumns.{RoomFor}

-- the solve of slices that are long enough
unfoldable pub solve_of : Given → Columns → Solution
solve_of g c =
    cond (eqb (first_refusal (solve_checks g c)) 0) (solve (rows_world (shown_in g)) (problem_over g c).problem) (Unsolved (first_refusal (solve_checks g c)))

-- of the slices that a function is lent, in the order of its parameters
abbrev pub SolvesOfBy : TableColumns → ℕ → (vc bc bk bt fs fd us ud ra rr wa wv : Slice) → (answers oc ok ot work : MutSlice) → Counts → Type 0
SolvesOfBy table n vc bc bk bt fs fd us ud ra rr wa wv answers oc ok ot work =
    SolvesBy (solve_of (given_of table) (columns_by n vc bc bk bt fs fd us ud ra rr wa wv)) answers oc ok ot work

-- columns of equal length, and room for what is answered
abbrev pub AskedSolve : ℕ → (vc bc bk bt fs fd us ud ra rr wa wv : SliceIn) → (answers oc ok ot work : MutSliceIn) → Type 0
AskedSolve n vc bc bk bt fs fd us ud ra rr wa wv answers oc ok ot work =
    (even_problem (columns_asked n vc bc bk bt fs fd us ud ra rr wa wv) ≡ true) × Roomy (length vc.now) (lent_asked answers oc ok ot work)

-- the same, and room for a table that holds nothing yet
abbrev pub AskedOver : TableColumns → (pairs marks : MutSliceIn) → ℕ → (vc bc bk bt fs fd us ud ra rr wa wv : SliceIn) → (answers oc ok ot work : MutSliceIn) → Type 0
AskedOver table pairs marks n vc bc bk bt fs fd us ud ra rr wa wv answers oc ok ot work =
    RoomFor table.rec_flags.now pairs.now × (marks.now ≡ no_marks) × (even_problem (columns_asked n vc bc bk bt fs fd us ud ra rr wa wv) ≡ true)
    × Roomy (length vc.now) (lent_asked answers oc ok ot work)
