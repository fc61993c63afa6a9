-- The promise of each public function, as the check reads it, allows one result.
use mathlib.Core.Path.{◌≡◌, sym, ◌∙◌}
use borrow.Fn.Kinds.{Dens, res_t, ended_of}
use denote.Triple.Clauses.{AtExit}
use contract.Lifetimes.{Lfts}
use Rattle.descriptor.specs.Read.{read-injective}
use Rattle.descriptor.proofs.read_type.Reads as read-type-reads
use Rattle.descriptor.proofs.read_type.Kinds as read-type-kinds
use Rattle.descriptor.proofs.read_last.Reads as read-last-reads
use Rattle.descriptor.proofs.read_last.Kinds as read-last-kinds
use Rattle.descriptor.proofs.read_whole.Reads as read-whole-reads
use Rattle.descriptor.proofs.read_whole.Kinds as read-whole-kinds

pub read-type-one : (κs : Lfts 1) (a : Dens κs read-type-kinds.ps) (r₁ r₂ : (res_t read-type-kinds.r κs).Denot)
    (x₁ x₂ : AtExit (ended_of 1 read-type-kinds.ps read-type-kinds.r) κs)
    → read-type-reads.Post κs a r₁ x₁ → read-type-reads.Post κs a r₂ x₂ → r₁ ≡ r₂
read-type-one κs a r₁ r₂ x₁ x₂ p q = read-injective r₁ r₂ (p ∙ sym q)

pub read-last-one : (κs : Lfts 1) (a : Dens κs read-last-kinds.ps) (r₁ r₂ : (res_t read-last-kinds.r κs).Denot)
    (x₁ x₂ : AtExit (ended_of 1 read-last-kinds.ps read-last-kinds.r) κs)
    → read-last-reads.Post κs a r₁ x₁ → read-last-reads.Post κs a r₂ x₂ → r₁ ≡ r₂
read-last-one κs a r₁ r₂ x₁ x₂ p q = read-injective r₁ r₂ (p ∙ sym q)

pub read-whole-one : (κs : Lfts 1) (a : Dens κs read-whole-kinds.ps) (r₁ r₂ : (res_t read-whole-kinds.r κs).Denot)
    (x₁ x₂ : AtExit (ended_of 1 read-whole-kinds.ps read-whole-kinds.r) κs)
    → read-whole-reads.Post κs a r₁ x₁ → read-whole-reads.Post κs a r₂ x₂ → r₁ ≡ r₂
read-whole-one κs a r₁ r₂ x₁ x₂ p q = read-injective r₁ r₂ (p ∙ sym q)
