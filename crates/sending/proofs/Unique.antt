-- The contract of each public function, as the check reads it, allows one outcome.
use mathlib.Core.Path.{◌≡◌, sym, ◌∙◌}
use borrow.Fn.Kinds.{Dens, res_t, ended_of}
use denote.Triple.Clauses.{AtExit}
use contract.Lifetimes.{Lfts}
use Rattle.sending.proofs.send_type.Reads as send-type
use Rattle.sending.proofs.send_type.Kinds as send-type-kinds
use Rattle.sending.proofs.send_element.Reads as send-element
use Rattle.sending.proofs.send_element.Kinds as send-element-kinds
use Rattle.sending.proofs.send_array.Reads as send-array
use Rattle.sending.proofs.send_array.Kinds as send-array-kinds

module _ (κs : Lfts 0) where
  pub send-type-one : (a : Dens κs send-type-kinds.ps) (r₁ r₂ : (res_t send-type-kinds.r κs).Denot) (x₁ x₂ : AtExit (ended_of 0 send-type-kinds.ps send-type-kinds.r) κs)
      → send-type.Post κs a r₁ x₁ → send-type.Post κs a r₂ x₂ → r₁ ≡ r₂
  send-type-one a r₁ r₂ x₁ x₂ p q = p ∙ sym q

  pub send-element-one : (a : Dens κs send-element-kinds.ps) (r₁ r₂ : (res_t send-element-kinds.r κs).Denot) (x₁ x₂ : AtExit (ended_of 0 send-element-kinds.ps send-element-kinds.r) κs)
      → send-element.Post κs a r₁ x₁ → send-element.Post κs a r₂ x₂ → r₁ ≡ r₂
  send-element-one a r₁ r₂ x₁ x₂ p q = p ∙ sym q

  pub send-array-one : (a : Dens κs send-array-kinds.ps) (r₁ r₂ : (res_t send-array-kinds.r κs).Denot) (x₁ x₂ : AtExit (ended_of 0 send-array-kinds.ps send-array-kinds.r) κs)
      → send-array.Post κs a r₁ x₁ → send-array.Post κs a r₂ x₂ → r₁ ≡ r₂
  send-array-one a r₁ r₂ x₁ x₂ p q = p ∙ sym q
