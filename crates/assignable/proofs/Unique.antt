-- The contract of each public function, as the check reads it, allows one result.
use mathlib.Core.Path.{◌≡◌, sym, ◌∙◌}
use borrow.Fn.Kinds.{Dens, res_t, ended_of}
use denote.Triple.Clauses.{AtExit}
use contract.Lifetimes.{Lfts}
use Rattle.assignable.proofs.unknown_accepts.Reads as unknown-accepts-reads
use Rattle.assignable.proofs.unknown_accepts.Kinds as unknown-accepts-kinds
use Rattle.assignable.proofs.primitive_assignable.Reads as primitive-assignable-reads
use Rattle.assignable.proofs.primitive_assignable.Kinds as primitive-assignable-kinds
use Rattle.assignable.proofs.not_no.Reads as not-no-reads
use Rattle.assignable.proofs.not_no.Kinds as not-no-kinds
use Rattle.assignable.proofs.is_assignable.Reads as is-assignable-reads
use Rattle.assignable.proofs.is_assignable.Kinds as is-assignable-kinds

pub unknown-accepts-one : (κs : Lfts 0) (a : Dens κs unknown-accepts-kinds.ps) (r₁ r₂ : (res_t unknown-accepts-kinds.r κs).Denot) (x₁ x₂ : AtExit (ended_of 0 unknown-accepts-kinds.ps unknown-accepts-kinds.r) κs)
    → unknown-accepts-reads.Post κs a r₁ x₁ → unknown-accepts-reads.Post κs a r₂ x₂ → r₁ ≡ r₂
unknown-accepts-one κs a r₁ r₂ x₁ x₂ p q = p ∙ sym q

pub primitive-assignable-one : (κs : Lfts 0) (a : Dens κs primitive-assignable-kinds.ps) (r₁ r₂ : (res_t primitive-assignable-kinds.r κs).Denot) (x₁ x₂ : AtExit (ended_of 0 primitive-assignable-kinds.ps primitive-assignable-kinds.r) κs)
    → primitive-assignable-reads.Post κs a r₁ x₁ → primitive-assignable-reads.Post κs a r₂ x₂ → r₁ ≡ r₂
primitive-assignable-one κs a r₁ r₂ x₁ x₂ p q = p ∙ sym q

pub not-no-one : (κs : Lfts 0) (a : Dens κs not-no-kinds.ps) (r₁ r₂ : (res_t not-no-kinds.r κs).Denot) (x₁ x₂ : AtExit (ended_of 0 not-no-kinds.ps not-no-kinds.r) κs)
    → not-no-reads.Post κs a r₁ x₁ → not-no-reads.Post κs a r₂ x₂ → r₁ ≡ r₂
not-no-one κs a r₁ r₂ x₁ x₂ p q = p ∙ sym q

pub is-assignable-one : (κs : Lfts 2) (a : Dens κs is-assignable-kinds.ps) (r₁ r₂ : (res_t is-assignable-kinds.r κs).Denot) (x₁ x₂ : AtExit (ended_of 2 is-assignable-kinds.ps is-assignable-kinds.r) κs)
    → is-assignable-reads.Post κs a r₁ x₁ → is-assignable-reads.Post κs a r₂ x₂ → r₁ ≡ r₂
is-assignable-one κs a r₁ r₂ x₁ x₂ p q = p ∙ sym q
