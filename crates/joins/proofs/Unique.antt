-- The contract of each public function, and of four that its callers lean on, as the check reads it, allows one result.
use mathlib.Core.Path.{◌≡◌, sym, ◌∙◌}
use borrow.Fn.Kinds.{Dens, res_t, ended_of}
use denote.Triple.Clauses.{AtExit}
use contract.Lifetimes.{Lfts}
use Rattle.joins.proofs.join_primitives.Reads as join-primitives-reads
use Rattle.joins.proofs.join_primitives.Kinds as join-primitives-kinds
use Rattle.joins.proofs.unknown_union.Reads as unknown-union-reads
use Rattle.joins.proofs.unknown_union.Kinds as unknown-union-kinds
use Rattle.joins.proofs.in_both.Reads as in-both-reads
use Rattle.joins.proofs.in_both.Kinds as in-both-kinds
use Rattle.joins.proofs.join_known.Reads as join-known-reads
use Rattle.joins.proofs.join_known.Kinds as join-known-kinds
use Rattle.joins.proofs.join.Reads as join-reads
use Rattle.joins.proofs.join.Kinds as join-kinds
use Rattle.joins.proofs.join_all.Reads as join-all-reads
use Rattle.joins.proofs.join_all.Kinds as join-all-kinds

pub join-primitives-one : (κs : Lfts 0) (a : Dens κs join-primitives-kinds.ps) (r₁ r₂ : (res_t join-primitives-kinds.r κs).Denot) (x₁ x₂ : AtExit (ended_of 0 join-primitives-kinds.ps join-primitives-kinds.r) κs)
    → join-primitives-reads.Post κs a r₁ x₁ → join-primitives-reads.Post κs a r₂ x₂ → r₁ ≡ r₂
join-primitives-one κs a r₁ r₂ x₁ x₂ p q = λ i. record { word = (p ∙ sym q) i }

pub unknown-union-one : (κs : Lfts 0) (a : Dens κs unknown-union-kinds.ps) (r₁ r₂ : (res_t unknown-union-kinds.r κs).Denot) (x₁ x₂ : AtExit (ended_of 0 unknown-union-kinds.ps unknown-union-kinds.r) κs)
    → unknown-union-reads.Post κs a r₁ x₁ → unknown-union-reads.Post κs a r₂ x₂ → r₁ ≡ r₂
unknown-union-one κs a r₁ r₂ x₁ x₂ p q = λ i. record { word = (p ∙ sym q) i }

pub in-both-one : (κs : Lfts 0) (a : Dens κs in-both-kinds.ps) (r₁ r₂ : (res_t in-both-kinds.r κs).Denot) (x₁ x₂ : AtExit (ended_of 0 in-both-kinds.ps in-both-kinds.r) κs)
    → in-both-reads.Post κs a r₁ x₁ → in-both-reads.Post κs a r₂ x₂ → r₁ ≡ r₂
in-both-one κs a r₁ r₂ x₁ x₂ p q = λ i. record { word = (p ∙ sym q) i }

pub join-known-one : (κs : Lfts 0) (a : Dens κs join-known-kinds.ps) (r₁ r₂ : (res_t join-known-kinds.r κs).Denot) (x₁ x₂ : AtExit (ended_of 0 join-known-kinds.ps join-known-kinds.r) κs)
    → join-known-reads.Post κs a r₁ x₁ → join-known-reads.Post κs a r₂ x₂ → r₁ ≡ r₂
join-known-one κs a r₁ r₂ x₁ x₂ p q = λ i. record { word = (p ∙ sym q) i }

pub join-one : (κs : Lfts 2) (a : Dens κs join-kinds.ps) (r₁ r₂ : (res_t join-kinds.r κs).Denot) (x₁ x₂ : AtExit (ended_of 2 join-kinds.ps join-kinds.r) κs)
    → join-reads.Post κs a r₁ x₁ → join-reads.Post κs a r₂ x₂ → r₁ ≡ r₂
join-one κs a r₁ r₂ x₁ x₂ p q = λ i. record { word = (p ∙ sym q) i }

pub join-all-one : (κs : Lfts 3) (a : Dens κs join-all-kinds.ps) (r₁ r₂ : (res_t join-all-kinds.r κs).Denot) (x₁ x₂ : AtExit (ended_of 3 join-all-kinds.ps join-all-kinds.r) κs)
    → join-all-reads.Post κs a r₁ x₁ → join-all-reads.Post κs a r₂ x₂ → r₁ ≡ r₂
join-all-one κs a r₁ r₂ x₁ x₂ p q = p ∙ sym q
