-- WHAT A SOLVE OVER SLICES THAT NO CHECK REFUSES MEANS, in the words of the rows: it is the solve of the rows as they stand, over the world of
-- the table's rows; that world is lawful and the rows are within the limits, so every theorem about solves is about it.
use Rattle.std.specs.Prelude.{◌≡◌, refl, Bool, true, false, not, ◌-◌, ◌^◌, ◌≤◌, eqb}
use Rattle.std.proofs.Math.Path.{ap}
use Rattle.std.proofs.Common.{◌∙◌, arith, eq-eqb, eqb-true}
use Rattle.std.proofs.Math.Bool.{cond}
use Rattle.std.proofs.lemmas.Bool.{eqb-false}
use Rattle.checks.specs.Checks.{first_refusal}
use Rattle.view.specs.Reach.{Good}
use Rattle.lattice.specs.Lattice.{Lawful}
use Rattle.lattice.specs.World.{with-lawful}
use Rattle.columns.specs.Given.{Given, even}
use Rattle.tableview.specs.TableRows.{rows_view, rows_world}
use Rattle.stackview.specs.LayerRows.{shown_in}
use Rattle.stackview.specs.LayerRefusals.{stack_refusal_of}
use Rattle.stackview.proofs.Shown.{stack-refused}
use Rattle.tableview.proofs.Domain.{even-exactly}
use Rattle.stackview.proofs.Domain.{stack-exactly}
use Rattle.questionlaws.specs.Accepted.{good-rows}
use Rattle.solving.specs.Solving.{Unsolved, solve}
use Rattle.problems.specs.Problems.{Columns, even_problem}
use Rattle.solving.specs.Solve.{Checked}
use Rattle.problems.specs.Held.{Words}
use Rattle.problems.specs.Plain.{plain_problem, Meant}
use Rattle.problems.proofs.Plain.{problem-solves, problem-means}
use Rattle.problems.specs.Exact.{Allowed}
use Rattle.problems.proofs.Exact.{taken-allowed}
use Rattle.solves.specs.SolveResult.{Lent}
use Rattle.solvedoor.specs.SolveDoor.{too_short, problem_over, solve_checks, solve_refusal, solve_in}

-- what no check refused says
pub record Open (g : Given) (c : Columns) (l : Lent) : Type 0 where
  pub long : too_short c l ≡ false
  pub columns : even g ≡ true
  pub rows : even_problem c ≡ true
  pub table-taken : stack_refusal_of g ≡ 0
  pub problem-taken : (problem_over g c).refusal ≡ 0
  pub object-there : (rows_view (shown_in g)).object ≡ 2 ^ 64 - 1 → ⊥

pub opened : (g : Given) (c : Columns) (l : Lent) → solve_refusal g c l ≡ 0 → Open g c l
unfolding solve_refusal solve_checks first_refusal
opened g c l h = go (too_short c l) refl (even g) refl (even_problem c) refl (eqb (stack_refusal_of g) 0) refl (eqb (problem_over g c).refusal 0) refl (eqb (rows_view (shown_in g)).object (2 ^ 64 - 1)) refl h
  where
    go : (a : Bool) → too_short c l ≡ a → (b : Bool) → even g ≡ b → (d : Bool) → even_problem c ≡ d → (x : Bool) → eqb (stack_refusal_of g) 0 ≡ x
        → (y : Bool) → eqb (problem_over g c).refusal 0 ≡ y → (z : Bool) → eqb (rows_view (shown_in g)).object (2 ^ 64 - 1) ≡ z
        → cond a 22 (cond (not b) 3 (cond (not d) 3 (cond (not x) (stack_refusal_of g) (cond (not y) (problem_over g c).refusal (cond z 9 0))))) ≡ 0 → Open g c l
    go true ea b eb d ed x ex y ey z ez q = absurd (omega arith)
    go false ea false eb d ed x ex y ey z ez q = absurd (omega arith)
    go false ea true eb false ed x ex y ey z ez q = absurd (omega arith)
    go false ea true eb true ed false ex y ey z ez q = absurd (eqb-false (stack_refusal_of g) 0 ex q)
    go false ea true eb true ed true ex false ey z ez q = absurd (eqb-false (problem_over g c).refusal 0 ey q)
    go false ea true eb true ed true ex true ey true ez q = absurd (omega arith)
    go false ea true eb true ed true ex true ey false ez q = record {
      long = ea;
      columns = eb;
      rows = ed;
      table-taken = eqb-true (stack_refusal_of g) 0 ex;
      problem-taken = eqb-true (problem_over g c).refusal 0 ey;
      object-there = eqb-false (rows_view (shown_in g)).object (2 ^ 64 - 1) ez;
    }

module _ (g : Given) (c : Columns) (l : Lent) (z : solve_refusal g c l ≡ 0) where
  -- IT IS THE SOLVE OF THE ROWS AS THEY STAND, over the world of the table's rows
  pub solve-plain : solve_in g c l ≡ solve (rows_world (shown_in g)) (plain_problem c)
  unfolding solve_in problem_over
  solve-plain =
      ap (λ (b : Bool). cond b (solve (rows_world (shown_in g)) (problem_over g c).problem) (Unsolved (solve_refusal g c l))) (eq-eqb (solve_refusal g c l) 0 z)
      ∙ problem-solves (rows_view (shown_in g)).names c (opened g c l z).problem-taken (rows_world (shown_in g))

  -- the view of the rows is good: Object and all parents are classes
  pub rows-good : Good (rows_view (shown_in g))
  rows-good =
      let o = opened g c l z in
      good-rows g o.columns (stack-refused g ∙ o.table-taken) o.object-there

  -- SO THEIR WORLD IS LAWFUL
  pub rows-lawful : Lawful (rows_world (shown_in g))
  unfolding rows_world
  rows-lawful = with-lawful (rows_view (shown_in g)) (rows_world (shown_in g)).cloneable (rows_world (shown_in g)).serializable rows-good

  -- AND THE ROWS OF THE PROBLEM ARE IN RANGE, LEGAL AND WITHIN THE LIMITS
  pub rows-meant : Words c.bound_words → Meant (rows_view (shown_in g)).names (plain_problem c)
  unfolding problem_over
  rows-meant w = problem-means (rows_view (shown_in g)).names c w (opened g c l z).problem-taken

  -- over so many names
  pub names-few : (rows_world (shown_in g)).names ≤ 1024
  unfolding rows_world rows_view shown_in
  names-few =
      let o = opened g c l z in
      ((stack-exactly g ((even-exactly g).0 o.columns)).0 (stack-refused g ∙ o.table-taken)).1.few-names

  -- in the words of the solver's theorems
  pub rows-checked : Words c.bound_words → Checked (rows_world (shown_in g)).names (plain_problem c)
  unfolding rows_world
  rows-checked w = (rows-meant w).checked

  -- the word of each bound is legal
  pub rows-allowed : Words c.bound_words → Allowed (rows_world (shown_in g)).names c
  unfolding problem_over rows_world
  rows-allowed w = taken-allowed (rows_view (shown_in g)).names c w (opened g c l z).problem-taken
