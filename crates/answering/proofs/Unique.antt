-- The contract of each public function, as the check reads it, allows one outcome: of the copy the ends and the lent slice, of one component
-- the answer, of all variables the answers' slice. What the copies leave in the lent slice is no part of an answer.
use mathlib.Core.Path.{◌≡◌, sym, ◌∙◌}
use borrow.Fn.Kinds.{Dens, res_t, ended_of}
use denote.Triple.Clauses.{AtExit}
use contract.Lifetimes.{Lfts}
use Rattle.answering.proofs.copy_state.Reads as copy-state
use Rattle.answering.proofs.copy_state.Kinds as copy-state-kinds
use Rattle.answering.proofs.answer.Reads as answer
use Rattle.answering.proofs.answer.Kinds as answer-kinds
use Rattle.answering.proofs.answers.Reads as answers
use Rattle.answering.proofs.answers.Kinds as answers-kinds

pub copy-state-one : (κs : Lfts 2) (a : Dens κs copy-state-kinds.ps) (r₁ r₂ : (res_t copy-state-kinds.r κs).Denot) (x₁ x₂ : AtExit (ended_of 2 copy-state-kinds.ps copy-state-kinds.r) κs)
    → copy-state.Post κs a r₁ x₁ → copy-state.Post κs a r₂ x₂ → (r₁ ≡ r₂) × (x₁.1.1.0.now ≡ x₂.1.1.0.now)
copy-state-one κs a r₁ r₂ x₁ x₂ p q = (p.0 ∙ sym q.0, p.1 ∙ sym q.1)

pub answer-one : (κs : Lfts 4) (a : Dens κs answer-kinds.ps) (r₁ r₂ : (res_t answer-kinds.r κs).Denot) (x₁ x₂ : AtExit (ended_of 4 answer-kinds.ps answer-kinds.r) κs)
    → answer.Post κs a r₁ x₁ → answer.Post κs a r₂ x₂ → r₁ ≡ r₂
answer-one κs a r₁ r₂ x₁ x₂ p q = p ∙ sym q

pub answers-one : (κs : Lfts 6) (a : Dens κs answers-kinds.ps) (r₁ r₂ : (res_t answers-kinds.r κs).Denot) (x₁ x₂ : AtExit (ended_of 6 answers-kinds.ps answers-kinds.r) κs)
    → answers.Post κs a r₁ x₁ → answers.Post κs a r₂ x₂ → x₁.1.1.1.1.1.1.0.now ≡ x₂.1.1.1.1.1.1.0.now
answers-one κs a r₁ r₂ x₁ x₂ p q = p ∙ sym q
