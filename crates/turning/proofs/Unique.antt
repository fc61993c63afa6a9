-- The contract of turn, as the check reads it, allows one outcome: the state, the cells and the ring.
use mathlib.Core.Path.{◌≡◌, sym, ap, ◌∙◌}
use borrow.Fn.Kinds.{Dens, res_t, ended_of}
use denote.Triple.Clauses.{AtExit}
use contract.Lifetimes.{Lfts}
use Rattle.inserting.specs.Store.{Store}
use Rattle.turning.proofs.turn.Reads as turn-reads
use Rattle.turning.proofs.turn.Kinds as turn-kinds

pub turn-one : (κs : Lfts 11) (a : Dens κs turn-kinds.ps) (r₁ r₂ : (res_t turn-kinds.r κs).Denot) (x₁ x₂ : AtExit (ended_of 11 turn-kinds.ps turn-kinds.r) κs)
    → turn-reads.Post κs a r₁ x₁ → turn-reads.Post κs a r₂ x₂
    → (r₁ ≡ r₂) × (x₁.1.1.1.0.now ≡ x₂.1.1.1.0.now) × (x₁.1.1.1.1.0.now ≡ x₂.1.1.1.1.0.now)
turn-one κs a r₁ r₂ x₁ x₂ p q = (
  ap (λ (s : Store). s.state) p ∙ sym (ap (λ (s : Store). s.state) q),
  ap (λ (s : Store). s.cells) p ∙ sym (ap (λ (s : Store). s.cells) q),
  ap (λ (s : Store). s.ring) p ∙ sym (ap (λ (s : Store). s.ring) q),
)
