-- ONE LAYER IS AS BEFORE, of a solve: where no row opens a layer, a solve over slices is refused by the rows of a plain table, and else is the solve
-- over its world.
use Rattle.std.specs.Prelude.{◌≡◌, Bool, cond, not, [], ◌∷◌, ℕ, ◌-◌, ◌^◌, eqb}
use Rattle.std.proofs.Math.Path.{refl}
use Rattle.std.proofs.Math.Bool.{true, false}
use Rattle.checks.specs.Checks.{check, first_refusal}
use Rattle.columns.specs.Given.{Given, even}
use Rattle.tableview.specs.TableRows.{rows_view, rows_world, rows_in}
use Rattle.tableview.specs.RowRefusals.{table_refusal}
use Rattle.stackview.proofs.OneLayer.{plain-refusal, plain-rows}
use Rattle.solving.specs.Solving.{Solution, Unsolved, solve}
use Rattle.problems.specs.Problems.{Columns, Placed, even_problem, problem}
use Rattle.solves.specs.SolveResult.{Lent}
use Rattle.questionlaws.specs.OneLayer.{Plain}
use Rattle.solvedoor.specs.SolveDoor.{too_short, problem_over, solve_checks, solve_refusal, solve_in}

-- the problem over the names of the table's own rows
abbrev pub plain_problem_over : Given → Columns → Placed
plain_problem_over g c = problem (rows_view (rows_in g)).names c

unfoldable pub plain_solve_refusal : Given → Columns → Lent → ℕ
plain_solve_refusal g c l =
    first_refusal
    (check (too_short c l) 22
    ∷ check (not (even g)) 3
    ∷ check (not (even_problem c)) 3
    ∷ check (not (eqb (table_refusal g) 0)) (table_refusal g)
    ∷ check (not (eqb (plain_problem_over g c).refusal 0)) (plain_problem_over g c).refusal
    ∷ check (eqb (rows_view (rows_in g)).object (2 ^ 64 - 1)) 9
    ∷ [])

unfoldable pub plain_solve : Given → Columns → Lent → Solution
plain_solve g c l = cond (eqb (plain_solve_refusal g c l) 0) (solve (rows_world (rows_in g)) (plain_problem_over g c).problem) (Unsolved (plain_solve_refusal g c l))

module _ (g : Given) (none : Plain g) (c : Columns) (l : Lent) where
  refusal-plain : solve_refusal g c l ≡ plain_solve_refusal g c l
  unfolding solve_refusal plain_solve_refusal solve_checks first_refusal problem_over
  refusal-plain = go (even g) refl
    where
      go : (b : Bool) → even g ≡ b → solve_refusal g c l ≡ plain_solve_refusal g c l
      go true e = rw (plain-rows g none, plain-refusal g e none)
      go false e = rw e

  pub solve-as-before : solve_in g c l ≡ plain_solve g c l
  unfolding solve_in plain_solve problem_over
  solve-as-before = rw (refusal-plain, plain-rows g none)
