-- Why the steps of a solve over a table come to what is promised: a refused one leaves answers and columns, and the solve of the slices that
-- were filled is the solve of the columns.
use Rattle.std.specs.Prelude.{◌≡◌, refl, List, ℕ, ◌-◌, ◌^◌, length, replicate}
use Rattle.std.proofs.Common.{sym, ap, ◌∙◌, subst, arith}
use borrow.Author.Tests.{eq-eqb, ne_eqb}
use Rattle.tables.specs.declared.Tables.{Tables}
use Rattle.lattice.specs.Lattice.{World}
use Rattle.solving.specs.declared.Counts.{Counts}
use Rattle.solving.specs.Solving.{Problem, Solution, Unsolved, solve}
use Rattle.problems.specs.Problems.{Columns, problem}
use Rattle.problemcolumns.specs.declared.ProblemCounts.{ProblemCounts}
use Rattle.problemcolumns.specs.ProblemColumns.{Taken}
use Rattle.problemcolumns.specs.Laws.{taken-refusal}
use Rattle.solver.specs.Solver.{counted}
use Rattle.solves.specs.SolveResult.{Lent, lent, counts_of, answers_after, components_after, kinds_after, types_after, Solves}
use Rattle.solvechecks.specs.SolveChecks.{rows_refusal}
use Rattle.solvechecks.specs.Steps.{rows-taken}
use Rattle.solverows.specs.SolveRows.{problem_front, KeepsFront, columns_refusal, solve_rows}

-- ---- a refused solve

module _ (a oc ok ot w w' : List ℕ) (r : Counts) (k : ℕ) (e : r ≡ counted k 0 0) (z : w' ≡ replicate (length w) 0) where
  pub unsolved : Solves (Unsolved k) (lent a oc ok ot w) (lent a oc ok ot w') r
  unfolding counts_of answers_after components_after kinds_after types_after
  unsolved = record { counts = e; answers = refl; components = refl; kinds = refl; types = refl; work = z }

  pub refused-rows : (world : World) (t : Tables) (c : Columns) → (k ≡ 0 → ⊥) → k ≡ columns_refusal t c → Solves (solve_rows world t c) (lent a oc ok ot w) (lent a oc ok ot w') r
  unfolding solve_rows
  refused-rows world t c n f = rw (← f, ne_eqb k 0 n) unsolved

-- ---- the solve of what the rows have made

minus-none : (n : ℕ) → n - 0 ≡ n
minus-none n = omega arith

module _ (names : ℕ) (c : Columns) (bounds bounds' flows flows' uppers uppers' reads reads' writes writes' : List ℕ) (r : ProblemCounts)
    (t : Taken names c bounds bounds' flows flows' uppers uppers' reads reads' writes writes' r) where
  -- THE REFUSAL THAT THE CODE HAS FOUND
  pub refusal-is : (object k : ℕ) → k ≡ rows_refusal r.refusal object → k ≡ rows_refusal (problem names c).refusal object
  refusal-is object k e =
      e ∙ ap (λ (x : ℕ). rows_refusal x object) (taken-refusal names c bounds bounds' flows flows' uppers uppers' reads reads' writes writes' r t)

  module _ (object k : ℕ) (e : k ≡ rows_refusal r.refusal object) (z : k ≡ 0) where
    taken : r.refusal ≡ 0
    taken = (rows-taken r.refusal object (sym e ∙ z)).0

    pub object-there : object ≡ 2 ^ 64 - 1 → ⊥
    object-there = (rows-taken r.refusal object (sym e ∙ z)).1

    -- the parts that are lent keep the problem
    pub parts-keep : KeepsFront names c.components c.variables r bounds' flows' uppers' reads' writes'
    parts-keep = rw (minus-none r.bounds, minus-none r.flows, minus-none r.uppers, minus-none r.reads, minus-none r.writes) (t.keeps taken)

    pub parts-are : problem_front c.components c.variables r bounds' flows' uppers' reads' writes' ≡ (problem names c).problem
    parts-are = rw (minus-none r.bounds, minus-none r.flows, minus-none r.uppers, minus-none r.reads, minus-none r.writes) (t.problem-is taken)

module _ (world : World) (t : Tables) (c : Columns) (p : Problem) (k : ℕ) (e : k ≡ columns_refusal t c) (z : k ≡ 0) (q : p ≡ (problem t.names c).problem) where
  rows-solve : solve world p ≡ solve_rows world t c
  unfolding solve_rows
  rows-solve = rw (← e, eq-eqb k 0 z) (ap (solve world) q)

  pub rows-solved : (before after : Lent) (r : Counts) → Solves (solve world p) before after r → Solves (solve_rows world t c) before after r
  rows-solved before after r d = subst (λ (x : Solution). Solves x before after r) rows-solve d
