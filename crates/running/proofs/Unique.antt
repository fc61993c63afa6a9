-- The contract of each function, as the check reads it, allows one outcome, the slices included.
use mathlib.Core.Path.{◌≡◌, sym, ◌∙◌}
use borrow.Fn.Kinds.{Dens, res_t, ended_of}
use denote.Triple.Clauses.{AtExit}
use contract.Lifetimes.{Lfts}
use Rattle.running.proofs.load.Reads as load
use Rattle.running.proofs.load.Kinds as load-kinds
use Rattle.running.proofs.start.Reads as start
use Rattle.running.proofs.start.Kinds as start-kinds
use Rattle.running.proofs.take_front.Reads as front
use Rattle.running.proofs.take_front.Kinds as front-kinds

module _ (κs : Lfts 1) where
  pub start-one : (a : Dens κs start-kinds.ps) (r₁ r₂ : (res_t start-kinds.r κs).Denot) (x₁ x₂ : AtExit (ended_of 1 start-kinds.ps start-kinds.r) κs)
      → start.Post κs a r₁ x₁ → start.Post κs a r₂ x₂ → (r₁ ≡ r₂) × (x₁.0.now ≡ x₂.0.now)
  start-one a r₁ r₂ x₁ x₂ p q = (p.0 ∙ sym q.0, p.1 ∙ sym q.1)

  pub take-front-one : (a : Dens κs front-kinds.ps) (r₁ r₂ : (res_t front-kinds.r κs).Denot) (x₁ x₂ : AtExit (ended_of 1 front-kinds.ps front-kinds.r) κs)
      → front.Post κs a r₁ x₁ → front.Post κs a r₂ x₂ → r₁ ≡ r₂
  take-front-one a r₁ r₂ x₁ x₂ p q = p ∙ sym q

pub load-one : (κs : Lfts 2) (a : Dens κs load-kinds.ps) (r₁ r₂ : (res_t load-kinds.r κs).Denot) (x₁ x₂ : AtExit (ended_of 2 load-kinds.ps load-kinds.r) κs)
    → load.Post κs a r₁ x₁ → load.Post κs a r₂ x₂ → x₁.1.0.now ≡ x₂.1.0.now
load-one κs a r₁ r₂ x₁ x₂ p q = p ∙ sym q
