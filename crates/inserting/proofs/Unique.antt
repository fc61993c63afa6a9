-- The contract of each public function, as the check reads it, allows one outcome, both slices included.
use mathlib.Core.Path.{◌≡◌, sym, ap, ◌∙◌}
use borrow.Fn.Kinds.{Dens, res_t, ended_of}
use denote.Triple.Clauses.{AtExit}
use contract.Lifetimes.{Lfts}
use Rattle.inserting.specs.Store.{Store}
use Rattle.inserting.proofs.insert_bound.Reads as bound
use Rattle.inserting.proofs.insert_bound.Kinds as bound-kinds
use Rattle.inserting.proofs.insert_sent.Reads as sent
use Rattle.inserting.proofs.insert_sent.Kinds as sent-kinds

module _ (κs : Lfts 2) where
  pub insert-bound-one : (a : Dens κs bound-kinds.ps) (r₁ r₂ : (res_t bound-kinds.r κs).Denot) (x₁ x₂ : AtExit (ended_of 2 bound-kinds.ps bound-kinds.r) κs)
      → bound.Post κs a r₁ x₁ → bound.Post κs a r₂ x₂ → (r₁ ≡ r₂) × (x₁.0.now ≡ x₂.0.now) × (x₁.1.0.now ≡ x₂.1.0.now)
  insert-bound-one a r₁ r₂ x₁ x₂ p q =
      let e = p ∙ sym q in
      (ap (λ (s : Store). s.state) e, ap (λ (s : Store). s.cells) e, ap (λ (s : Store). s.ring) e)

  pub insert-sent-one : (a : Dens κs sent-kinds.ps) (r₁ r₂ : (res_t sent-kinds.r κs).Denot) (x₁ x₂ : AtExit (ended_of 2 sent-kinds.ps sent-kinds.r) κs)
      → sent.Post κs a r₁ x₁ → sent.Post κs a r₂ x₂ → (r₁ ≡ r₂) × (x₁.0.now ≡ x₂.0.now) × (x₁.1.0.now ≡ x₂.1.0.now)
  insert-sent-one a r₁ r₂ x₁ x₂ p q =
      let e = p ∙ sym q in
      (ap (λ (s : Store). s.state) e, ap (λ (s : Store). s.cells) e, ap (λ (s : Store). s.ring) e)
