-- WHAT BP_SOLVE RETURNS AND LEAVES, of every result and every content of lent memory that its contract allows, as the check reads it: not refused, it
-- gives what the scope paper demands of a solve; refused, with which number exactly, and what is then as it came.
use Rattle.std.specs.Prelude.{◌≡◌, ◌∷◌, ◌⊎◌, ◌↔◌, ℕ, length, replicate}
use Rattle.std.proofs.Common.{ap}
use borrow.Fn.Kinds.{Dens, res_t, ended_of}
use denote.Triple.Clauses.{AtExit}
use contract.Lifetimes.{Lfts}
use Rattle.checks.specs.Checks.{check, FirstOf}
use Rattle.columns.specs.Given.{Given, given}
use Rattle.solving.specs.declared.Counts.{Counts}
use Rattle.solving.specs.Solving.{Stopped}
use Rattle.problems.specs.Problems.{Columns}
use Rattle.problems.specs.Held.{Words}
use Rattle.problemcolumns.specs.ProblemColumns.{columns_in}
use Rattle.solves.specs.SolveResult.{Lent, lent}
use Rattle.solvedoor.specs.SolveDoor.{too_short, solve_checks, solve_refusal, SolvesIn}
use Rattle.solvelaws.specs.Gives.{Gives, solve-gives}
use Rattle.solvelaws.specs.Refusals.{run_in, run_refusal, Short, Solvable, refused-22, refused-run, refused-first, refused-kept, work-kept, work-zero, domain-taken}
use Rattle.bracepuffin.specs.declared.BpSolved.{BpSolved}
use Rattle.bracepuffin.specs.Boundary.{solved_told}
use Rattle.bracepuffin.proofs.bp_solve.Reads as bp-solve-reads
use Rattle.bracepuffin.proofs.bp_solve.Kinds as bp-solve-kinds

-- ---- the arguments, by what they are

-- the columns of the class table
abbrev pub table_given : (κs : Lfts 25) → Dens κs bp-solve-kinds.ps → Given
table_given κs a =
    given a.0.now a.1.0.now a.1.1.0.now a.1.1.1.0.now a.1.1.1.1.0.now a.1.1.1.1.1.0.now a.1.1.1.1.1.1.0.now a.1.1.1.1.1.1.1.0.now

-- the columns of the problem
abbrev pub problem_given : (κs : Lfts 25) → Dens κs bp-solve-kinds.ps → Columns
problem_given κs a =
    columns_in a.1.1.1.1.1.1.1.1.0 a.1.1.1.1.1.1.1.1.1.0.now a.1.1.1.1.1.1.1.1.1.1.0.now a.1.1.1.1.1.1.1.1.1.1.1.0.now a.1.1.1.1.1.1.1.1.1.1.1.1.0.now a.1.1.1.1.1.1.1.1.1.1.1.1.1.0.now a.1.1.1.1.1.1.1.1.1.1.1.1.1.1.0.now a.1.1.1.1.1.1.1.1.1.1.1.1.1.1.1.0.now a.1.1.1.1.1.1.1.1.1.1.1.1.1.1.1.1.0.now a.1.1.1.1.1.1.1.1.1.1.1.1.1.1.1.1.1.0.now a.1.1.1.1.1.1.1.1.1.1.1.1.1.1.1.1.1.1.0.now a.1.1.1.1.1.1.1.1.1.1.1.1.1.1.1.1.1.1.1.0.now a.1.1.1.1.1.1.1.1.1.1.1.1.1.1.1.1.1.1.1.1.0.now

-- the slices that were lent: answers, three columns, work
abbrev pub lent_before : (κs : Lfts 25) → Dens κs bp-solve-kinds.ps → Lent
lent_before κs a =
    lent a.1.1.1.1.1.1.1.1.1.1.1.1.1.1.1.1.1.1.1.1.1.0.now a.1.1.1.1.1.1.1.1.1.1.1.1.1.1.1.1.1.1.1.1.1.1.0.now a.1.1.1.1.1.1.1.1.1.1.1.1.1.1.1.1.1.1.1.1.1.1.1.0.now a.1.1.1.1.1.1.1.1.1.1.1.1.1.1.1.1.1.1.1.1.1.1.1.1.0.now a.1.1.1.1.1.1.1.1.1.1.1.1.1.1.1.1.1.1.1.1.1.1.1.1.1.0.now

-- and afterwards
abbrev pub lent_after : (κs : Lfts 25) → AtExit (ended_of 25 bp-solve-kinds.ps bp-solve-kinds.r) κs → Lent
lent_after κs x =
    lent x.1.1.1.1.1.1.1.1.1.1.1.1.1.1.1.1.1.1.1.1.1.0.now x.1.1.1.1.1.1.1.1.1.1.1.1.1.1.1.1.1.1.1.1.1.1.0.now x.1.1.1.1.1.1.1.1.1.1.1.1.1.1.1.1.1.1.1.1.1.1.1.0.now x.1.1.1.1.1.1.1.1.1.1.1.1.1.1.1.1.1.1.1.1.1.1.1.1.0.now x.1.1.1.1.1.1.1.1.1.1.1.1.1.1.1.1.1.1.1.1.1.1.1.1.1.0.now

-- what was returned
abbrev pub counts_in : BpSolved → Counts
counts_in r = record { refusal = r.refusal; bounds = r.bounds; turns = r.turns }

-- the contract, as the solve's laws have it
pub solves-in : (κs : Lfts 25) (a : Dens κs bp-solve-kinds.ps) (r : (res_t bp-solve-kinds.r κs).Denot) (x : AtExit (ended_of 25 bp-solve-kinds.ps bp-solve-kinds.r) κs)
    → bp-solve-reads.Post κs a r x → SolvesIn (table_given κs a) (problem_given κs a) (lent_before κs a) (lent_after κs x) (counts_in r)
unfolding solved_told
solves-in κs a r x p = record { counts = ap counts_in p.0; memory = p.1 }

-- ---- not refused

-- BP_SOLVE GIVES: every given row among the final rows; these closed, ascending, legal; answers all ones or concrete, and along a chain of rows
-- assignable to what is asked at its end, or both references; turns counted (`Gives`)
pub bp-solve : (κs : Lfts 25) (a : Dens κs bp-solve-kinds.ps) (r : (res_t bp-solve-kinds.r κs).Denot) (x : AtExit (ended_of 25 bp-solve-kinds.ps bp-solve-kinds.r) κs)
    → bp-solve-reads.Post κs a r x → Words (problem_given κs a).bound_words → r.refusal ≡ 0 → Gives (table_given κs a) (problem_given κs a) (lent_before κs a) (lent_after κs x) (counts_in r)
bp-solve κs a r x p w z = solve-gives (table_given κs a) (problem_given κs a) (lent_before κs a) (lent_after κs x) (counts_in r) w (solves-in κs a r x p) z

-- ---- refused

-- 22 EXACTLY IF A SLICE IS TOO SHORT
pub bp-solve-short : (κs : Lfts 25) (a : Dens κs bp-solve-kinds.ps) (r : (res_t bp-solve-kinds.r κs).Denot) (x : AtExit (ended_of 25 bp-solve-kinds.ps bp-solve-kinds.r) κs)
    → bp-solve-reads.Post κs a r x → (r.refusal ≡ 22) ↔ Short (problem_given κs a) (lent_before κs a)
bp-solve-short κs a r x p = refused-22 (table_given κs a) (problem_given κs a) (lent_before κs a) (lent_after κs x) (counts_in r) (solves-in κs a r x p)

-- 20 AND 21 EXACTLY IF NO CHECK HOLDS AND THE RUN STOPS WITH THEM
pub bp-solve-run : (κs : Lfts 25) (a : Dens κs bp-solve-kinds.ps) (r : (res_t bp-solve-kinds.r κs).Denot) (x : AtExit (ended_of 25 bp-solve-kinds.ps bp-solve-kinds.r) κs)
    → bp-solve-reads.Post κs a r x
    → (k : ℕ) → (k ≡ 20) ⊎ (k ≡ 21) → (r.refusal ≡ k) ↔ ((solve_refusal (table_given κs a) (problem_given κs a) (lent_before κs a) ≡ 0) × (run_in (table_given κs a) (problem_given κs a) ≡ Stopped k))
bp-solve-run κs a r x p = refused-run (table_given κs a) (problem_given κs a) (lent_before κs a) (lent_after κs x) (counts_in r) (solves-in κs a r x p)

-- ANY OTHER NUMBER EXACTLY IF IT IS THAT OF THE FIRST CHECK OF THE LIST THAT HOLDS
pub bp-solve-first : (κs : Lfts 25) (a : Dens κs bp-solve-kinds.ps) (r : (res_t bp-solve-kinds.r κs).Denot) (x : AtExit (ended_of 25 bp-solve-kinds.ps bp-solve-kinds.r) κs)
    → bp-solve-reads.Post κs a r x
    → (k : ℕ) → (k ≡ 0 → ⊥) → (k ≡ 20 → ⊥) → (k ≡ 21 → ⊥)
    → (r.refusal ≡ k) ↔ FirstOf (check (too_short (problem_given κs a) (lent_before κs a)) 22 ∷ solve_checks (table_given κs a) (problem_given κs a)) k
bp-solve-first κs a r x p = refused-first (table_given κs a) (problem_given κs a) (lent_before κs a) (lent_after κs x) (counts_in r) (solves-in κs a r x p)

-- REFUSED: the other fields zero, answers and columns as they came
pub bp-solve-refused : (κs : Lfts 25) (a : Dens κs bp-solve-kinds.ps) (r : (res_t bp-solve-kinds.r κs).Denot) (x : AtExit (ended_of 25 bp-solve-kinds.ps bp-solve-kinds.r) κs)
    → bp-solve-reads.Post κs a r x → (r.refusal ≡ 0 → ⊥)
    → (r.bounds ≡ 0) × (r.turns ≡ 0) × ((lent_after κs x).answers ≡ (lent_before κs a).answers) × ((lent_after κs x).components ≡ (lent_before κs a).components)
    × ((lent_after κs x).kinds ≡ (lent_before κs a).kinds) × ((lent_after κs x).types ≡ (lent_before κs a).types)
bp-solve-refused κs a r x p n =
    let k = refused-kept (table_given κs a) (problem_given κs a) (lent_before κs a) (lent_after κs x) (counts_in r) (solves-in κs a r x p) n in
    (ap (λ (c : Counts). c.bounds) k.0, ap (λ (c : Counts). c.turns) k.0, k.1, k.2, k.3, k.4)

-- THE WORK: as it came with 22, else zero
pub bp-solve-work : (κs : Lfts 25) (a : Dens κs bp-solve-kinds.ps) (r : (res_t bp-solve-kinds.r κs).Denot) (x : AtExit (ended_of 25 bp-solve-kinds.ps bp-solve-kinds.r) κs)
    → bp-solve-reads.Post κs a r x
    → (r.refusal ≡ 22 → (lent_after κs x).work ≡ (lent_before κs a).work) × ((r.refusal ≡ 22 → ⊥) → (lent_after κs x).work ≡ replicate (length (lent_before κs a).work) 0)
bp-solve-work κs a r x p = (work-kept (table_given κs a) (problem_given κs a) (lent_before κs a) (lent_after κs x) (counts_in r) (solves-in κs a r x p), work-zero (table_given κs a) (problem_given κs a) (lent_before κs a) (lent_after κs x) (counts_in r) (solves-in κs a r x p))

-- IN THE DOMAIN (`Solvable`) NO REFUSAL BUT 20 AND 21, and those exactly as the run stops with them
pub bp-solve-taken : (κs : Lfts 25) (a : Dens κs bp-solve-kinds.ps) (r : (res_t bp-solve-kinds.r κs).Denot) (x : AtExit (ended_of 25 bp-solve-kinds.ps bp-solve-kinds.r) κs)
    → bp-solve-reads.Post κs a r x → Words (problem_given κs a).bound_words → Solvable (table_given κs a) (problem_given κs a) (lent_before κs a)
    → (r.refusal ≡ run_refusal (run_in (table_given κs a) (problem_given κs a))) × ((r.refusal ≡ 0) ⊎ ((r.refusal ≡ 20) ⊎ (r.refusal ≡ 21)))
bp-solve-taken κs a r x p w d = domain-taken (table_given κs a) (problem_given κs a) (lent_before κs a) (lent_after κs x) (counts_in r) w (solves-in κs a r x p) d
