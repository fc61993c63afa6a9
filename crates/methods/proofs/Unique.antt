-- The promise of each public function, as the check reads it, allows one result and one parameter slice.
use mathlib.Core.Path.{◌≡◌, sym, ◌∙◌}
use borrow.Fn.Kinds.{Dens, res_t, ended_of}
use denote.Triple.Clauses.{AtExit}
use contract.Lifetimes.{Lfts}
use Rattle.descriptor.specs.Read.{read-injective}
use Rattle.methods.specs.Answers.{method-read-injective}
use Rattle.methods.proofs.read_strict.Reads as read-strict-reads
use Rattle.methods.proofs.read_strict.Kinds as read-strict-kinds
use Rattle.methods.proofs.read_method.Reads as read-method-reads
use Rattle.methods.proofs.read_method.Kinds as read-method-kinds

pub read-strict-one : (κs : Lfts 1) (a : Dens κs read-strict-kinds.ps) (r₁ r₂ : (res_t read-strict-kinds.r κs).Denot)
    (x₁ x₂ : AtExit (ended_of 1 read-strict-kinds.ps read-strict-kinds.r) κs)
    → read-strict-reads.Post κs a r₁ x₁ → read-strict-reads.Post κs a r₂ x₂ → r₁ ≡ r₂
read-strict-one κs a r₁ r₂ x₁ x₂ p q = read-injective r₁ r₂ (p ∙ sym q)

pub read-method-one : (κs : Lfts 2) (a : Dens κs read-method-kinds.ps) (r₁ r₂ : (res_t read-method-kinds.r κs).Denot)
    (x₁ x₂ : AtExit (ended_of 2 read-method-kinds.ps read-method-kinds.r) κs)
    → read-method-reads.Post κs a r₁ x₁ → read-method-reads.Post κs a r₂ x₂ → (r₁ ≡ r₂) × (x₁.1.0.now ≡ x₂.1.0.now)
read-method-one κs a r₁ r₂ x₁ x₂ p q = (method-read-injective r₁ r₂ (p.0 ∙ sym q.0), p.1 ∙ sym q.1)
