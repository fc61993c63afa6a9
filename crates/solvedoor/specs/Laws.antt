-- Laws of a solve over slices, as the code meets them: which check refuses, and that a solve over the slices that were built is the one that
-- is promised.
use Rattle.std.specs.Prelude.{◌≡◌, Bool, not, ◌||◌, ℕ, eqb, length, replicate}
use Rattle.std.proofs.Math.Path.{refl, sym, ap, ap₂, subst}
use Rattle.std.proofs.Common.{◌∙◌}
use Rattle.std.proofs.Math.Bool.{true, false, cond}
use Rattle.std.proofs.lemmas.Bool.{false≢true}
use mathlib.Core.List.{List}
use borrow.Author.Tests.{ne_eqb, ltb-false}
use Rattle.checks.specs.Checks.{first_refusal}
use Rattle.view.specs.View.{View}
use Rattle.lattice.specs.World.{world_of}
use Rattle.rows.specs.declared.Outcome.{Outcome}
use Rattle.columns.specs.Given.{Given, even}
use Rattle.layercolumns.specs.LayerColumns.{Shows}
use Rattle.tableview.specs.TableRows.{rows_view}
use Rattle.stackview.specs.LayerRows.{shown_in}
use Rattle.stackview.specs.LayerRefusals.{stack_refusal_of}
use Rattle.stackview.specs.Shown.{checked_stack}
use Rattle.solving.specs.declared.Counts.{Counts}
use Rattle.solving.specs.Solving.{Solution, Unsolved}
use Rattle.problems.specs.Problems.{Columns, even_problem}
use Rattle.problemcolumns.specs.ProblemColumns.{even_rows}
use Rattle.problemcolumns.specs.Steps.{even-rows}
use Rattle.solver.specs.Solver.{counted}
use Rattle.solves.specs.SolveResult.{Lent, lent, Roomy, counts_of, answers_after, components_after, kinds_after, types_after, Solves}
use Rattle.solvechecks.specs.SolveChecks.{short_lengths, lengths_refusal, rows_refusal, work_left}
use Rattle.solvechecks.specs.Steps.{lengths-none}
use Rattle.solverows.specs.SolveRows.{columns_refusal, solve_rows}
use Rattle.solverows.specs.Laws.{unsolved}
use Rattle.questions.specs.Laws.{Stands, stands, built-refusal}
use Rattle.solvedoor.specs.SolveDoor.{too_short, problem_over, solve_checks, solve_refusal, solve_in, solve_work, SolvesIn}
use Rattle.solvedoor.specs.Inside.{solve_of}

-- ---- by lengths

lengths-are : (c : Columns) (l : Lent)
    → too_short c l ≡ short_lengths (length c.variables) (length l.answers) (length l.components) (length l.kinds) (length l.types) (length l.work)
unfolding too_short short_lengths
lengths-are c l = refl

neither : (a b : Bool) → (a || b) ≡ false → (a ≡ false) × (b ≡ false)
neither true b h = absurd (false≢true (sym h))
neither false b h = (refl, h)

-- WHAT IS NOT TOO SHORT HAS ROOM
pub roomy : (c : Columns) (l : Lent) → too_short c l ≡ false → Roomy (length c.variables) l
unfolding too_short
roomy c l h =
    let p = neither _ _ h in
    let q = neither _ _ p.1 in
    let r = neither _ _ q.1 in
    let s = neither _ _ r.1 in
    record {
      answers = ltb-false _ _ p.0;
      components = ltb-false _ _ q.0;
      kinds = ltb-false _ _ r.0;
      types = ltb-false _ _ s.0;
      work = ltb-false _ _ s.1;
    }

-- ---- a refused solve

module _ (a oc ok ot w w' : List ℕ) (r : Counts) (k : ℕ) (e : r ≡ counted k 0 0) (z : w' ≡ replicate (length w) 0) where
  pub refused-of : (g : Given) (c : Columns) → (k ≡ 0 → ⊥) → first_refusal (solve_checks g c) ≡ k → Solves (solve_of g c) (lent a oc ok ot w) (lent a oc ok ot w') r
  unfolding solve_of
  refused-of g c n f = rw (f, ne_eqb k 0 n) (unsolved a oc ok ot w w' r k e z)

uneven-problem : (g : Given) (c : Columns) → even_problem c ≡ false → first_refusal (solve_checks g c) ≡ 3
unfolding solve_checks first_refusal
uneven-problem g c e = go (even g) refl
  where
    go : (b : Bool) → even g ≡ b → first_refusal (solve_checks g c) ≡ 3
    go false d = rw d
    go true d = rw (d, e)

-- ---- over the table that was built

module _ (g : Given) (c : Columns) (even-c : even_problem c ≡ true) (pairs' marks' : List ℕ) (o : Outcome) (f : Shows (checked_stack g) pairs' marks' o) where
  pub table-refused : (o.refusal ≡ 0 → ⊥) → first_refusal (solve_checks g c) ≡ o.refusal
  unfolding solve_checks first_refusal
  table-refused n = go (even g) refl (eqb (stack_refusal_of g) 0) refl
    where
      is : o.refusal ≡ cond (not (even g)) 3 (cond (not (eqb (stack_refusal_of g) 0)) (stack_refusal_of g) 0)
      is = built-refusal g pairs' marks' o f

      go : (b : Bool) → even g ≡ b → (d : Bool) → eqb (stack_refusal_of g) 0 ≡ d → first_refusal (solve_checks g c) ≡ o.refusal
      go false x d y = rw (is, x)
      go true x false y = rw (is, x, even-c, y)
      go true x true y = absurd (n (is ∙ ap₂ (λ (p q : Bool). cond (not p) 3 (cond (not q) (stack_refusal_of g) 0)) x y))

  module _ (z : o.refusal ≡ 0) where
    abbrev s : Stands g pairs' marks' o.tables
    s = stands g pairs' marks' o f z

    names-are : o.tables.names ≡ (rows_view (shown_in g)).names
    names-are = ap (λ (v : View). v.names) s.view-is

    object-is : o.tables.object ≡ (rows_view (shown_in g)).object
    object-is = ap (λ (v : View). v.object) s.view-is

    checks-are : columns_refusal o.tables c ≡ first_refusal (solve_checks g c)
    unfolding rows_refusal solve_checks first_refusal problem_over
    checks-are = rw (s.even-is, even-c, s.rows-taken, names-are, object-is)

    -- A SOLVE FROM THERE ON IS THE SOLVE OF THE COLUMNS
    table-solve : solve_rows (world_of pairs' marks' o.tables) o.tables c ≡ solve_of g c
    unfolding solve_rows solve_of problem_over
    table-solve = rw (checks-are, s.world-is, names-are)

    pub table-solved : (before after : Lent) (r : Counts) → Solves (solve_rows (world_of pairs' marks' o.tables) o.tables c) before after r → Solves (solve_of g c) before after r
    table-solved before after r d = subst (λ (x : Solution). Solves x before after r) table-solve d

-- ---- the whole

module _ (g : Given) (c : Columns) (l : Lent) where
  -- a slice is too short: nothing is touched
  short-is : too_short c l ≡ true → solve_in g c l ≡ Unsolved 22
  unfolding solve_in solve_refusal first_refusal
  short-is h = rw h

  door-short : (r : Counts) → too_short c l ≡ true → r ≡ counted 22 0 0 → SolvesIn g c l l r
  unfolding solve_work counts_of answers_after components_after kinds_after types_after
  door-short r h e =
      let s = sym (short-is h) in
      record {
        counts = e ∙ ap counts_of s;
        memory = record {
          answers = ap (λ (x : Solution). answers_after x l.answers) s;
          components = ap (λ (x : Solution). components_after x l.components) s;
          kinds = ap (λ (x : Solution). kinds_after x l.kinds) s;
          types = ap (λ (x : Solution). types_after x l.types) s;
          work = sym (ap (λ (b : Bool). cond b l.work (replicate (length l.work) 0)) h);
        };
      }

  long-is : too_short c l ≡ false → solve_in g c l ≡ solve_of g c
  unfolding solve_in solve_of solve_refusal first_refusal
  long-is h = rw h

  pub door-long : (l' : Lent) (r : Counts) → too_short c l ≡ false → Solves (solve_of g c) l l' r → SolvesIn g c l l' r
  unfolding solve_work
  door-long l' r h d =
      let e = sym (long-is h) in
      record {
        counts = d.counts ∙ ap counts_of e;
        memory = record {
          answers = d.answers ∙ ap (λ (x : Solution). answers_after x l.answers) e;
          components = d.components ∙ ap (λ (x : Solution). components_after x l.components) e;
          kinds = d.kinds ∙ ap (λ (x : Solution). kinds_after x l.kinds) e;
          types = d.types ∙ ap (λ (x : Solution). types_after x l.types) e;
          work = d.work ∙ sym (ap (λ (b : Bool). cond b l.work (replicate (length l.work) 0)) h);
        };
      }

-- THE REFUSAL BY LENGTHS THAT THE CODE HAS FOUND
pub lengths-refused : (c : Columns) (l : Lent) (k : ℕ)
    → k
    ≡ lengths_refusal (short_lengths (length c.variables) (length l.answers) (length l.components) (length l.kinds) (length l.types) (length l.work))
    (even_rows (length c.bound_components) (length c.bound_kinds) (length c.bound_words) (length c.flow_sources) (length c.flow_targets) (length c.upper_sources) (length c.upper_targets)
    (length c.read_arrays) (length c.read_results) (length c.write_arrays) (length c.write_values))
    → k ≡ lengths_refusal (too_short c l) (even_problem c)
lengths-refused c l k e = e ∙ sym (ap₂ lengths_refusal (lengths-are c l) (even-rows c))

pub lengths-good : (c : Columns) (l : Lent) (k : ℕ) → k ≡ lengths_refusal (too_short c l) (even_problem c) → k ≡ 0 → (too_short c l ≡ false) × (even_problem c ≡ true)
lengths-good c l k e z = lengths-none (too_short c l) (even_problem c) (sym e ∙ z)

module _ (g : Given) (c : Columns) (a oc ok ot w w' : List ℕ) (r : Counts) (k : ℕ) (e : r ≡ counted k 0 0) (z : w' ≡ work_left k w) (n : k ≡ 0 → ⊥) where
  abbrev slices : Lent
  slices = lent a oc ok ot w

  -- A SOLVE THAT IS REFUSED BY LENGTHS
  pub door-lengths : k ≡ lengths_refusal (too_short c slices) (even_problem c) → SolvesIn g c slices (lent a oc ok ot w') r
  unfolding lengths_refusal first_refusal work_left
  door-lengths f = go (too_short c slices) refl (even_problem c) refl
    where
      go : (s : Bool) → too_short c slices ≡ s → (b : Bool) → even_problem c ≡ b → SolvesIn g c slices (lent a oc ok ot w') r
      go true p b q =
          let k22 : k ≡ 22 = f ∙ ap (λ (x : Bool). lengths_refusal x (even_problem c)) p in
          let same : w ≡ w' = sym (z ∙ ap (λ (x : ℕ). work_left x w) k22) in
          subst (λ (x : List ℕ). SolvesIn g c slices (lent a oc ok ot x) r) same (door-short g c slices r p (e ∙ ap (λ (x : ℕ). counted x 0 0) k22))
      go false p true q = absurd (n (f ∙ ap₂ lengths_refusal p q))
      go false p false q =
          let k3 : k ≡ 3 = f ∙ ap₂ lengths_refusal p q in
          door-long g c slices _ r p (refused-of a oc ok ot w w' r k e (z ∙ ap (λ (x : ℕ). work_left x w) k3) g c n (uneven-problem g c q ∙ sym k3))
