-- The contract of each public function, as the check reads it, allows one outcome.
use mathlib.Core.Path.{◌≡◌, sym, ◌∙◌}
use borrow.Fn.Kinds.{Dens, res_t, ended_of}
use denote.Triple.Clauses.{AtExit}
use contract.Lifetimes.{Lfts}
use Rattle.hexline.proofs.read_line.Reads as read-line
use Rattle.hexline.proofs.read_line.Kinds as read-line-kinds
use Rattle.hexline.proofs.number_at.Reads as number_at
use Rattle.hexline.proofs.number_at.Kinds as number-at-kinds
use Rattle.hexline.proofs.word_at_3.Reads as word-at-3
use Rattle.hexline.proofs.word_at_3.Kinds as word-at-3-kinds
use Rattle.hexline.proofs.put_numbers.Reads as put-numbers
use Rattle.hexline.proofs.put_numbers.Kinds as put-numbers-kinds

pub read-line-one : (κs : Lfts 2) (a : Dens κs read-line-kinds.ps) (r₁ r₂ : (res_t read-line-kinds.r κs).Denot)
    (x₁ x₂ : AtExit (ended_of 2 read-line-kinds.ps read-line-kinds.r) κs) → read-line.Post κs a r₁ x₁ → read-line.Post κs a r₂ x₂ → (r₁ ≡ r₂) × (x₁.1.0.now ≡ x₂.1.0.now)
read-line-one κs a r₁ r₂ x₁ x₂ p q = (p.count-is ∙ sym q.count-is, p.slice-is ∙ sym q.slice-is)

pub number-at-one : (κs : Lfts 1) (a : Dens κs number-at-kinds.ps) (r₁ r₂ : (res_t number-at-kinds.r κs).Denot)
    (x₁ x₂ : AtExit (ended_of 1 number-at-kinds.ps number-at-kinds.r) κs) → number_at.Post κs a r₁ x₁ → number_at.Post κs a r₂ x₂ → r₁ ≡ r₂
number-at-one κs a r₁ r₂ x₁ x₂ p q = p.0 ∙ sym q.0

pub word-at-3-one : (κs : Lfts 1) (a : Dens κs word-at-3-kinds.ps) (r₁ r₂ : (res_t word-at-3-kinds.r κs).Denot)
    (x₁ x₂ : AtExit (ended_of 1 word-at-3-kinds.ps word-at-3-kinds.r) κs) → word-at-3.Post κs a r₁ x₁ → word-at-3.Post κs a r₂ x₂ → r₁ ≡ r₂
word-at-3-one κs a r₁ r₂ x₁ x₂ p q = p.0 ∙ sym q.0

pub put-numbers-one : (κs : Lfts 2) (a : Dens κs put-numbers-kinds.ps) (r₁ r₂ : (res_t put-numbers-kinds.r κs).Denot)
    (x₁ x₂ : AtExit (ended_of 2 put-numbers-kinds.ps put-numbers-kinds.r) κs) → put-numbers.Post κs a r₁ x₁ → put-numbers.Post κs a r₂ x₂ → (r₁ ≡ r₂) × (x₁.1.0.now ≡ x₂.1.0.now)
put-numbers-one κs a r₁ r₂ x₁ x₂ p q = (p.0 ∙ sym q.0, p.1 ∙ sym q.1)
