-- The contract of each function, as the check reads it, allows one outcome, the ring included.
use mathlib.Core.Path.{◌≡◌, sym, ◌∙◌}
use borrow.Fn.Kinds.{Dens, res_t, ended_of}
use denote.Triple.Clauses.{AtExit}
use contract.Lifetimes.{Lfts}
use Rattle.queue.proofs.fill.Reads as fill
use Rattle.queue.proofs.fill.Kinds as fill-kinds
use Rattle.queue.proofs.offer.Reads as offer
use Rattle.queue.proofs.offer.Kinds as offer-kinds
use Rattle.queue.proofs.pop.Reads as pop
use Rattle.queue.proofs.pop.Kinds as pop-kinds

module _ (κs : Lfts 1) where
  pub fill-one : (a : Dens κs fill-kinds.ps) (r₁ r₂ : (res_t fill-kinds.r κs).Denot) (x₁ x₂ : AtExit (ended_of 1 fill-kinds.ps fill-kinds.r) κs)
      → fill.Post κs a r₁ x₁ → fill.Post κs a r₂ x₂ → (r₁ ≡ r₂) × (x₁.0.now ≡ x₂.0.now)
  fill-one a r₁ r₂ x₁ x₂ p q = (p.0 ∙ sym q.0, p.1 ∙ sym q.1)

  pub offer-one : (a : Dens κs offer-kinds.ps) (r₁ r₂ : (res_t offer-kinds.r κs).Denot) (x₁ x₂ : AtExit (ended_of 1 offer-kinds.ps offer-kinds.r) κs)
      → offer.Post κs a r₁ x₁ → offer.Post κs a r₂ x₂ → (r₁ ≡ r₂) × (x₁.0.now ≡ x₂.0.now)
  offer-one a r₁ r₂ x₁ x₂ p q = (p.0 ∙ sym q.0, p.1 ∙ sym q.1)

  pub pop-one : (a : Dens κs pop-kinds.ps) (r₁ r₂ : (res_t pop-kinds.r κs).Denot) (x₁ x₂ : AtExit (ended_of 1 pop-kinds.ps pop-kinds.r) κs)
      → pop.Post κs a r₁ x₁ → pop.Post κs a r₂ x₂ → r₁ ≡ r₂
  pop-one a r₁ r₂ x₁ x₂ p q = p ∙ sym q
