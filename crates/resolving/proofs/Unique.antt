-- The contract of each public function, as the check reads it, allows one result.
use mathlib.Core.Path.{◌≡◌, sym, ◌∙◌}
use borrow.Fn.Kinds.{Dens, res_t, ended_of}
use denote.Triple.Clauses.{AtExit}
use contract.Lifetimes.{Lfts}
use Rattle.resolving.proofs.produced_type.Reads as produced-type-reads
use Rattle.resolving.proofs.produced_type.Kinds as produced-type-kinds
use Rattle.resolving.proofs.element_of.Reads as element-of-reads
use Rattle.resolving.proofs.element_of.Kinds as element-of-kinds
use Rattle.resolving.proofs.array_element.Reads as array-element-reads
use Rattle.resolving.proofs.array_element.Kinds as array-element-kinds
use Rattle.resolving.proofs.resolve_state.Reads as resolve-state-reads
use Rattle.resolving.proofs.resolve_state.Kinds as resolve-state-kinds

pub produced-type-one : (κs : Lfts 4) (a : Dens κs produced-type-kinds.ps) (r₁ r₂ : (res_t produced-type-kinds.r κs).Denot) (x₁ x₂ : AtExit (ended_of 4 produced-type-kinds.ps produced-type-kinds.r) κs)
    → produced-type-reads.Post κs a r₁ x₁ → produced-type-reads.Post κs a r₂ x₂ → r₁ ≡ r₂
produced-type-one κs a r₁ r₂ x₁ x₂ p q = p ∙ sym q

pub element-of-one : (κs : Lfts 3) (a : Dens κs element-of-kinds.ps) (r₁ r₂ : (res_t element-of-kinds.r κs).Denot) (x₁ x₂ : AtExit (ended_of 3 element-of-kinds.ps element-of-kinds.r) κs)
    → element-of-reads.Post κs a r₁ x₁ → element-of-reads.Post κs a r₂ x₂ → r₁ ≡ r₂
element-of-one κs a r₁ r₂ x₁ x₂ p q = p ∙ sym q

pub array-element-one : (κs : Lfts 5) (a : Dens κs array-element-kinds.ps) (r₁ r₂ : (res_t array-element-kinds.r κs).Denot) (x₁ x₂ : AtExit (ended_of 5 array-element-kinds.ps array-element-kinds.r) κs)
    → array-element-reads.Post κs a r₁ x₁ → array-element-reads.Post κs a r₂ x₂ → r₁ ≡ r₂
array-element-one κs a r₁ r₂ x₁ x₂ p q = p ∙ sym q

pub resolve-state-one : (κs : Lfts 7) (a : Dens κs resolve-state-kinds.ps) (r₁ r₂ : (res_t resolve-state-kinds.r κs).Denot) (x₁ x₂ : AtExit (ended_of 7 resolve-state-kinds.ps resolve-state-kinds.r) κs)
    → resolve-state-reads.Post κs a r₁ x₁ → resolve-state-reads.Post κs a r₂ x₂ → r₁ ≡ r₂
resolve-state-one κs a r₁ r₂ x₁ x₂ p q = p ∙ sym q
