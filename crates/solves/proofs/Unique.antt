-- The contract of the public function, as the check reads it, allows one outcome: the counts and every lent slice.
use mathlib.Core.Path.{◌≡◌, sym, ◌∙◌}
use borrow.Fn.Kinds.{Dens, res_t, ended_of}
use denote.Triple.Clauses.{AtExit}
use contract.Lifetimes.{Lfts}
use Rattle.solving.specs.declared.Counts.{Counts}
use Rattle.solving.specs.Solving.{Solution}
use Rattle.solves.specs.SolveResult.{Lent, lent, Solves}
use Rattle.solves.proofs.solve_problem.Reads as solve-problem
use Rattle.solves.proofs.solve_problem.Kinds as solve-problem-kinds

-- of one solve, over the same slices
solves-one : (s : Solution) (l l₁ l₂ : Lent) (r₁ r₂ : Counts) → Solves s l l₁ r₁ → Solves s l l₂ r₂ → (r₁ ≡ r₂) × (l₁ ≡ l₂)
solves-one s l l₁ l₂ r₁ r₂ p q =
    let a = p.answers ∙ sym q.answers in
    let c = p.components ∙ sym q.components in
    let k = p.kinds ∙ sym q.kinds in
    let t = p.types ∙ sym q.types in
    let w = p.work ∙ sym q.work in
    (p.counts ∙ sym q.counts, λ i. record { answers = a i; components = c i; kinds = k i; types = t i; work = w i })

pub solve-problem-one : (κs : Lfts 13) (a : Dens κs solve-problem-kinds.ps) (r₁ r₂ : (res_t solve-problem-kinds.r κs).Denot) (x₁ x₂ : AtExit (ended_of 13 solve-problem-kinds.ps solve-problem-kinds.r) κs)
    → solve-problem.Post κs a r₁ x₁ → solve-problem.Post κs a r₂ x₂ → (r₁ ≡ r₂) × (lent x₁.1.1.1.1.1.1.1.1.1.1.0.now x₁.1.1.1.1.1.1.1.1.1.1.1.0.now x₁.1.1.1.1.1.1.1.1.1.1.1.1.0.now x₁.1.1.1.1.1.1.1.1.1.1.1.1.1.0.now x₁.1.1.1.1.1.1.1.1.1.1.1.1.1.1.0.now ≡ lent x₂.1.1.1.1.1.1.1.1.1.1.0.now x₂.1.1.1.1.1.1.1.1.1.1.1.0.now x₂.1.1.1.1.1.1.1.1.1.1.1.1.0.now x₂.1.1.1.1.1.1.1.1.1.1.1.1.1.0.now x₂.1.1.1.1.1.1.1.1.1.1.1.1.1.1.0.now)
solve-problem-one κs a r₁ r₂ x₁ x₂ p q = solves-one _ _ _ _ _ _ p q
