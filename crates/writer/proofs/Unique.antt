-- The promise of each public function, as the check reads it, allows one result and one output.
use mathlib.Core.Path.{◌≡◌, sym, ◌∙◌}
use borrow.Fn.Kinds.{Dens, res_t, ended_of}
use denote.Triple.Clauses.{AtExit}
use contract.Lifetimes.{Lfts}
use Rattle.writer.specs.Print.{written-injective}
use Rattle.writer.proofs.write_type.Reads as type_Reads
use Rattle.writer.proofs.write_type.Kinds as type-kinds
use Rattle.writer.proofs.write_method.Reads as method-reads
use Rattle.writer.proofs.write_method.Kinds as method-kinds

pub write-type-one : (κs : Lfts 4) (a : Dens κs type-kinds.ps) (r₁ r₂ : (res_t type-kinds.r κs).Denot) (x₁ x₂ : AtExit (ended_of 4 type-kinds.ps type-kinds.r) κs)
    → type_Reads.Post κs a r₁ x₁ → type_Reads.Post κs a r₂ x₂ → (r₁ ≡ r₂) × (x₁.1.1.1.1.0.now ≡ x₂.1.1.1.1.0.now)
write-type-one κs a r₁ r₂ x₁ x₂ p q = (written-injective r₁ r₂ (p.result ∙ sym q.result), p.memory ∙ sym q.memory)

pub write-method-one : (κs : Lfts 5) (a : Dens κs method-kinds.ps) (r₁ r₂ : (res_t method-kinds.r κs).Denot)
    (x₁ x₂ : AtExit (ended_of 5 method-kinds.ps method-kinds.r) κs)
    → method-reads.Post κs a r₁ x₁ → method-reads.Post κs a r₂ x₂ → (r₁ ≡ r₂) × (x₁.1.1.1.1.1.0.now ≡ x₂.1.1.1.1.1.0.now)
write-method-one κs a r₁ r₂ x₁ x₂ p q = (written-injective r₁ r₂ (p.result ∙ sym q.result), p.memory ∙ sym q.memory)
