-- What a solve over slices comes to: its refusals in order, its result, and what stands in the lent slices afterwards. Every definition that
-- its contract cites.
use Rattle.std.specs.Prelude.{◌≡◌, Bool, cond, not, ◌||◌, List, [], ◌∷◌, ℕ, ◌-◌, ◌^◌, eqb, ltb, length, replicate}
use Rattle.checks.specs.Checks.{Check, check, first_refusal}
use Rattle.columns.specs.declared.TableColumns.{TableColumns}
use Rattle.columns.specs.Given.{Given, even, given_of}
use Rattle.tableview.specs.TableRows.{rows_view, rows_world}
use Rattle.stackview.specs.LayerRows.{shown_in}
use Rattle.stackview.specs.LayerRefusals.{stack_refusal_of}
use Rattle.solving.specs.declared.Counts.{Counts}
use Rattle.solving.specs.Solving.{Solution, Unsolved, solve}
use Rattle.problems.specs.Problems.{Columns, Placed, even_problem, problem}
use Rattle.solves.specs.SolveResult.{Lent, counts_of, answers_after, components_after, kinds_after, types_after, lent_by, left_by}
use Rattle.lending.specs.Lending.{Slice, MutSlice}
use Rattle.problemcolumns.specs.ProblemColumns.{columns_by}

-- one word a variable, 4,096 entries a column of bounds, 8,192 words of work
unfoldable pub too_short : Columns → Lent → Bool
too_short c l =
    ltb (length l.answers) (length c.variables)
    || (ltb (length l.components) 4096 || (ltb (length l.kinds) 4096 || (ltb (length l.types) 4096 || ltb (length l.work) 8192)))

-- the problem of the columns over the names of the table: its refusal, and what its rows have made
unfoldable pub problem_over : Given → Columns → Placed
problem_over g c = problem (rows_view (shown_in g)).names c

-- in order: columns of unequal length, of the table, then of the problem; the table's rows; the problem's rows; no java/lang/Object
unfoldable pub solve_checks : Given → Columns → List Check
solve_checks g c =
    check (not (even g)) 3
    ∷ check (not (even_problem c)) 3
    ∷ check (not (eqb (stack_refusal_of g) 0)) (stack_refusal_of g)
    ∷ check (not (eqb (problem_over g c).refusal 0)) (problem_over g c).refusal
    ∷ check (eqb (rows_view (shown_in g)).object (2 ^ 64 - 1)) 9
    ∷ []

-- before all, a slice that is too short
unfoldable pub solve_refusal : Given → Columns → Lent → ℕ
solve_refusal g c l = first_refusal (check (too_short c l) 22 ∷ solve_checks g c)

-- WHAT A SOLVE OVER SLICES COMES TO: a refusal, or the solve of the rows over the world of the rows that the table's layers show. 20 and 21 come from the run
unfoldable pub solve_in : Given → Columns → Lent → Solution
solve_in g c l = cond (eqb (solve_refusal g c l) 0) (solve (rows_world (shown_in g)) (problem_over g c).problem) (Unsolved (solve_refusal g c l))

-- the work at exit: zero everywhere, but as it came where a slice is too short
unfoldable pub solve_work : Columns → Lent → List ℕ
solve_work c l = cond (too_short c l) l.work (replicate (length l.work) 0)

-- what stands in each lent slice at exit: a refused solve leaves answers and columns, another fills their front and leaves the rest
pub record Leaves (g : Given) (c : Columns) (before after : Lent) : Type 0 where
  pub answers : after.answers ≡ answers_after (solve_in g c before) before.answers
  pub components : after.components ≡ components_after (solve_in g c before) before.components
  pub kinds : after.kinds ≡ kinds_after (solve_in g c before) before.kinds
  pub types : after.types ≡ types_after (solve_in g c before) before.types
  pub work : after.work ≡ solve_work c before

-- WHAT IS PROMISED of the result, a refusal and zeros or how many bounds and turns there were, and of the slices
pub record SolvesIn (g : Given) (c : Columns) (before after : Lent) (r : Counts) : Type 0 where
  pub counts : r ≡ counts_of (solve_in g c before)
  pub memory : Leaves g c before after

-- of the slices that a function is lent, in the order of its parameters
abbrev pub SolvesInBy : TableColumns → ℕ → (vc bc bk bt fs fd us ud ra rr wa wv : Slice) → (answers oc ok ot work : MutSlice) → Counts → Type 0
SolvesInBy table n vc bc bk bt fs fd us ud ra rr wa wv answers oc ok ot work =
    SolvesIn (given_of table) (columns_by n vc bc bk bt fs fd us ud ra rr wa wv)
    (lent_by answers oc ok ot work) (left_by answers oc ok ot work)
