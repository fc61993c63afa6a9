-- The contract of each public function, as the check reads it, allows one outcome.
use mathlib.Core.Path.{◌≡◌, sym, ◌∙◌}
use borrow.Fn.Kinds.{Dens, res_t, ended_of}
use denote.Triple.Clauses.{AtExit}
use contract.Lifetimes.{Lfts}
use Rattle.lineout.proofs.put_byte.Reads as put_byte
use Rattle.lineout.proofs.put_byte.Kinds as put-byte-kinds
use Rattle.lineout.proofs.put_decimal.Reads as put-decimal
use Rattle.lineout.proofs.put_decimal.Kinds as put-decimal-kinds
use Rattle.lineout.proofs.put_number.Reads as put-number
use Rattle.lineout.proofs.put_number.Kinds as put-number-kinds
use Rattle.lineout.proofs.put_refusal.Reads as put-refusal
use Rattle.lineout.proofs.put_refusal.Kinds as put-refusal-kinds
use Rattle.lineout.proofs.put_variables.Reads as put-variables
use Rattle.lineout.proofs.put_variables.Kinds as put-variables-kinds

pub put-byte-one : (κs : Lfts 1) (a : Dens κs put-byte-kinds.ps) (r₁ r₂ : (res_t put-byte-kinds.r κs).Denot)
    (x₁ x₂ : AtExit (ended_of 1 put-byte-kinds.ps put-byte-kinds.r) κs) → put_byte.Post κs a r₁ x₁ → put_byte.Post κs a r₂ x₂ → (r₁ ≡ r₂) × (x₁.0.now ≡ x₂.0.now)
put-byte-one κs a r₁ r₂ x₁ x₂ p q = (p.filled-is ∙ sym q.filled-is, p.out-is ∙ sym q.out-is)

pub put-decimal-one : (κs : Lfts 1) (a : Dens κs put-decimal-kinds.ps) (r₁ r₂ : (res_t put-decimal-kinds.r κs).Denot)
    (x₁ x₂ : AtExit (ended_of 1 put-decimal-kinds.ps put-decimal-kinds.r) κs) → put-decimal.Post κs a r₁ x₁ → put-decimal.Post κs a r₂ x₂ → (r₁ ≡ r₂) × (x₁.0.now ≡ x₂.0.now)
put-decimal-one κs a r₁ r₂ x₁ x₂ p q = (p.filled-is ∙ sym q.filled-is, p.out-is ∙ sym q.out-is)

pub put-number-one : (κs : Lfts 1) (a : Dens κs put-number-kinds.ps) (r₁ r₂ : (res_t put-number-kinds.r κs).Denot)
    (x₁ x₂ : AtExit (ended_of 1 put-number-kinds.ps put-number-kinds.r) κs) → put-number.Post κs a r₁ x₁ → put-number.Post κs a r₂ x₂ → (r₁ ≡ r₂) × (x₁.0.now ≡ x₂.0.now)
put-number-one κs a r₁ r₂ x₁ x₂ p q = (p.filled-is ∙ sym q.filled-is, p.out-is ∙ sym q.out-is)

pub put-refusal-one : (κs : Lfts 1) (a : Dens κs put-refusal-kinds.ps) (r₁ r₂ : (res_t put-refusal-kinds.r κs).Denot)
    (x₁ x₂ : AtExit (ended_of 1 put-refusal-kinds.ps put-refusal-kinds.r) κs) → put-refusal.Post κs a r₁ x₁ → put-refusal.Post κs a r₂ x₂ → (r₁ ≡ r₂) × (x₁.0.now ≡ x₂.0.now)
put-refusal-one κs a r₁ r₂ x₁ x₂ p q = (p.filled-is ∙ sym q.filled-is, p.out-is ∙ sym q.out-is)

pub put-variables-one : (κs : Lfts 2) (a : Dens κs put-variables-kinds.ps) (r₁ r₂ : (res_t put-variables-kinds.r κs).Denot)
    (x₁ x₂ : AtExit (ended_of 2 put-variables-kinds.ps put-variables-kinds.r) κs) → put-variables.Post κs a r₁ x₁ → put-variables.Post κs a r₂ x₂ → (r₁ ≡ r₂) × (x₁.0.now ≡ x₂.0.now)
put-variables-one κs a r₁ r₂ x₁ x₂ p q = (p.filled-is ∙ sym q.filled-is, p.out-is ∙ sym q.out-is)
