-- The contract of the public function, as the check reads it, allows one outcome: what is said, the numbers, the answers.
use mathlib.Core.Path.{◌≡◌, sym, ◌∙◌}
use borrow.Fn.Kinds.{Dens, res_t, ended_of}
use denote.Triple.Clauses.{AtExit}
use contract.Lifetimes.{Lfts}
use Rattle.solveframe.proofs.solve_frame.Reads as solve-frame
use Rattle.solveframe.proofs.solve_frame.Kinds as solve-frame-kinds

pub solve-frame-one : (κs : Lfts 4) (a : Dens κs solve-frame-kinds.ps) (r₁ r₂ : (res_t solve-frame-kinds.r κs).Denot)
    (x₁ x₂ : AtExit (ended_of 4 solve-frame-kinds.ps solve-frame-kinds.r) κs) → solve-frame.Post κs a r₁ x₁ → solve-frame.Post κs a r₂ x₂ → (r₁ ≡ r₂) × (x₁.1.1.1.0.now ≡ x₂.1.1.1.0.now)
solve-frame-one κs a r₁ r₂ x₁ x₂ p q = (p.result ∙ sym q.result, p.answers-are ∙ sym q.answers-are)
