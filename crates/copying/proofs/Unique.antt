-- The contract of each public function, as the check reads it, allows one outcome, the lent slice included.
use mathlib.Core.Path.{◌≡◌, sym, ◌∙◌}
use borrow.Fn.Kinds.{Dens, res_t, ended_of}
use denote.Triple.Clauses.{AtExit}
use contract.Lifetimes.{Lfts}
use Rattle.copying.proofs.copy_ranks.Reads as copy-ranks
use Rattle.copying.proofs.copy_ranks.Kinds as copy-ranks-kinds
use Rattle.copying.proofs.copy_words.Reads as copy-words
use Rattle.copying.proofs.copy_words.Kinds as copy-words-kinds
use Rattle.copying.proofs.copy_evidence.Reads as copy-evidence
use Rattle.copying.proofs.copy_evidence.Kinds as copy-evidence-kinds
use Rattle.copying.proofs.copy_uppers.Reads as copy-uppers
use Rattle.copying.proofs.copy_uppers.Kinds as copy-uppers-kinds

module _ (κs : Lfts 2) where
  pub copy-ranks-one : (a : Dens κs copy-ranks-kinds.ps) (r₁ r₂ : (res_t copy-ranks-kinds.r κs).Denot) (x₁ x₂ : AtExit (ended_of 2 copy-ranks-kinds.ps copy-ranks-kinds.r) κs)
      → copy-ranks.Post κs a r₁ x₁ → copy-ranks.Post κs a r₂ x₂ → (r₁ ≡ r₂) × (x₁.1.1.1.0.now ≡ x₂.1.1.1.0.now)
  copy-ranks-one a r₁ r₂ x₁ x₂ p q = (p.0 ∙ sym q.0, p.1 ∙ sym q.1)

  pub copy-words-one : (a : Dens κs copy-words-kinds.ps) (r₁ r₂ : (res_t copy-words-kinds.r κs).Denot) (x₁ x₂ : AtExit (ended_of 2 copy-words-kinds.ps copy-words-kinds.r) κs)
      → copy-words.Post κs a r₁ x₁ → copy-words.Post κs a r₂ x₂ → (r₁ ≡ r₂) × (x₁.1.1.1.0.now ≡ x₂.1.1.1.0.now)
  copy-words-one a r₁ r₂ x₁ x₂ p q = (p.0 ∙ sym q.0, p.1 ∙ sym q.1)

  pub copy-evidence-one : (a : Dens κs copy-evidence-kinds.ps) (r₁ r₂ : (res_t copy-evidence-kinds.r κs).Denot) (x₁ x₂ : AtExit (ended_of 2 copy-evidence-kinds.ps copy-evidence-kinds.r) κs)
      → copy-evidence.Post κs a r₁ x₁ → copy-evidence.Post κs a r₂ x₂ → (r₁ ≡ r₂) × (x₁.1.1.0.now ≡ x₂.1.1.0.now)
  copy-evidence-one a r₁ r₂ x₁ x₂ p q = (p.0 ∙ sym q.0, p.1 ∙ sym q.1)

  pub copy-uppers-one : (a : Dens κs copy-uppers-kinds.ps) (r₁ r₂ : (res_t copy-uppers-kinds.r κs).Denot) (x₁ x₂ : AtExit (ended_of 2 copy-uppers-kinds.ps copy-uppers-kinds.r) κs)
      → copy-uppers.Post κs a r₁ x₁ → copy-uppers.Post κs a r₂ x₂ → (r₁ ≡ r₂) × (x₁.1.1.0.now ≡ x₂.1.1.0.now)
  copy-uppers-one a r₁ r₂ x₁ x₂ p q = (p.0 ∙ sym q.0, p.1 ∙ sym q.1)
