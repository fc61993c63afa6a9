-- The contract of each public function, and of two that its callers lean on, as the check reads it, allows one result.
use mathlib.Core.Path.{◌≡◌, sym, ◌∙◌}
use borrow.Fn.Kinds.{Dens, res_t, ended_of}
use denote.Triple.Clauses.{AtExit}
use contract.Lifetimes.{Lfts}
use Rattle.candidates.proofs.producer_bound_compatible.Reads as producer-bound-compatible-reads
use Rattle.candidates.proofs.producer_bound_compatible.Kinds as producer-bound-compatible-kinds
use Rattle.candidates.proofs.same_register_category.Reads as same-register-category-reads
use Rattle.candidates.proofs.same_register_category.Kinds as same-register-category-kinds
use Rattle.candidates.proofs.observed_accepts.Reads as observed-accepts-reads
use Rattle.candidates.proofs.observed_accepts.Kinds as observed-accepts-kinds
use Rattle.candidates.proofs.domain_accepts.Reads as domain-accepts-reads
use Rattle.candidates.proofs.domain_accepts.Kinds as domain-accepts-kinds
use Rattle.candidates.proofs.is_assignable_to_all.Reads as is-assignable-to-all-reads
use Rattle.candidates.proofs.is_assignable_to_all.Kinds as is-assignable-to-all-kinds
use Rattle.candidates.proofs.most_specific_upper.Reads as most-specific-upper-reads
use Rattle.candidates.proofs.most_specific_upper.Kinds as most-specific-upper-kinds

pub producer-bound-compatible-one : (κs : Lfts 2) (a : Dens κs producer-bound-compatible-kinds.ps) (r₁ r₂ : (res_t producer-bound-compatible-kinds.r κs).Denot) (x₁ x₂ : AtExit (ended_of 2 producer-bound-compatible-kinds.ps producer-bound-compatible-kinds.r) κs)
    → producer-bound-compatible-reads.Post κs a r₁ x₁ → producer-bound-compatible-reads.Post κs a r₂ x₂ → r₁ ≡ r₂
producer-bound-compatible-one κs a r₁ r₂ x₁ x₂ p q = p ∙ sym q

pub same-register-category-one : (κs : Lfts 0) (a : Dens κs same-register-category-kinds.ps) (r₁ r₂ : (res_t same-register-category-kinds.r κs).Denot) (x₁ x₂ : AtExit (ended_of 0 same-register-category-kinds.ps same-register-category-kinds.r) κs)
    → same-register-category-reads.Post κs a r₁ x₁ → same-register-category-reads.Post κs a r₂ x₂ → r₁ ≡ r₂
same-register-category-one κs a r₁ r₂ x₁ x₂ p q = p ∙ sym q

pub observed-accepts-one : (κs : Lfts 0) (a : Dens κs observed-accepts-kinds.ps) (r₁ r₂ : (res_t observed-accepts-kinds.r κs).Denot) (x₁ x₂ : AtExit (ended_of 0 observed-accepts-kinds.ps observed-accepts-kinds.r) κs)
    → observed-accepts-reads.Post κs a r₁ x₁ → observed-accepts-reads.Post κs a r₂ x₂ → r₁ ≡ r₂
observed-accepts-one κs a r₁ r₂ x₁ x₂ p q = p ∙ sym q

pub domain-accepts-one : (κs : Lfts 1) (a : Dens κs domain-accepts-kinds.ps) (r₁ r₂ : (res_t domain-accepts-kinds.r κs).Denot) (x₁ x₂ : AtExit (ended_of 1 domain-accepts-kinds.ps domain-accepts-kinds.r) κs)
    → domain-accepts-reads.Post κs a r₁ x₁ → domain-accepts-reads.Post κs a r₂ x₂ → r₁ ≡ r₂
domain-accepts-one κs a r₁ r₂ x₁ x₂ p q = p ∙ sym q

pub is-assignable-to-all-one : (κs : Lfts 3) (a : Dens κs is-assignable-to-all-kinds.ps) (r₁ r₂ : (res_t is-assignable-to-all-kinds.r κs).Denot) (x₁ x₂ : AtExit (ended_of 3 is-assignable-to-all-kinds.ps is-assignable-to-all-kinds.r) κs)
    → is-assignable-to-all-reads.Post κs a r₁ x₁ → is-assignable-to-all-reads.Post κs a r₂ x₂ → r₁ ≡ r₂
is-assignable-to-all-one κs a r₁ r₂ x₁ x₂ p q = p ∙ sym q

pub most-specific-upper-one : (κs : Lfts 3) (a : Dens κs most-specific-upper-kinds.ps) (r₁ r₂ : (res_t most-specific-upper-kinds.r κs).Denot) (x₁ x₂ : AtExit (ended_of 3 most-specific-upper-kinds.ps most-specific-upper-kinds.r) κs)
    → most-specific-upper-reads.Post κs a r₁ x₁ → most-specific-upper-reads.Post κs a r₂ x₂ → r₁ ≡ r₂
most-specific-upper-one κs a r₁ r₂ x₁ x₂ p q = p ∙ sym q
