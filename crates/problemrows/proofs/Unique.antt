-- The contract of each public function, as the check reads it, allows one outcome.
use mathlib.Core.Path.{◌≡◌, sym, ◌∙◌}
use borrow.Fn.Kinds.{Dens, res_t, ended_of}
use denote.Triple.Clauses.{AtExit}
use contract.Lifetimes.{Lfts}
use Rattle.problemrows.proofs.check_count.Reads as check-count
use Rattle.problemrows.proofs.check_count.Kinds as check-count-kinds
use Rattle.problemrows.proofs.check_variable.Reads as check-variable
use Rattle.problemrows.proofs.check_variable.Kinds as check-variable-kinds
use Rattle.problemrows.proofs.add_variable.Reads as add-variable
use Rattle.problemrows.proofs.add_variable.Kinds as add-variable-kinds
use Rattle.problemrows.proofs.add_pair.Reads as add-pair
use Rattle.problemrows.proofs.add_pair.Kinds as add-pair-kinds
use Rattle.problemrows.proofs.add_bound.Reads as add-bound
use Rattle.problemrows.proofs.add_bound.Kinds as add-bound-kinds

pub check-count-one : (κs : Lfts 0) (a : Dens κs check-count-kinds.ps) (r₁ r₂ : (res_t check-count-kinds.r κs).Denot)
    (x₁ x₂ : AtExit (ended_of 0 check-count-kinds.ps check-count-kinds.r) κs) → check-count.Post κs a r₁ x₁ → check-count.Post κs a r₂ x₂ → r₁ ≡ r₂
check-count-one κs a r₁ r₂ x₁ x₂ p q = p ∙ sym q

pub check-variable-one : (κs : Lfts 0) (a : Dens κs check-variable-kinds.ps) (r₁ r₂ : (res_t check-variable-kinds.r κs).Denot)
    (x₁ x₂ : AtExit (ended_of 0 check-variable-kinds.ps check-variable-kinds.r) κs) → check-variable.Post κs a r₁ x₁ → check-variable.Post κs a r₂ x₂ → r₁ ≡ r₂
check-variable-one κs a r₁ r₂ x₁ x₂ p q = p ∙ sym q

-- the second parameter is lent
pub add-variable-one : (κs : Lfts 1) (a : Dens κs add-variable-kinds.ps) (r₁ r₂ : (res_t add-variable-kinds.r κs).Denot)
    (x₁ x₂ : AtExit (ended_of 1 add-variable-kinds.ps add-variable-kinds.r) κs) → add-variable.Post κs a r₁ x₁ → add-variable.Post κs a r₂ x₂
    → (r₁ ≡ r₂) × (x₁.1.0.now ≡ x₂.1.0.now)
add-variable-one κs a r₁ r₂ x₁ x₂ p q = (p.added-is ∙ sym q.added-is, p.entries-are ∙ sym q.entries-are)

pub add-pair-one : (κs : Lfts 1) (a : Dens κs add-pair-kinds.ps) (r₁ r₂ : (res_t add-pair-kinds.r κs).Denot)
    (x₁ x₂ : AtExit (ended_of 1 add-pair-kinds.ps add-pair-kinds.r) κs) → add-pair.Post κs a r₁ x₁ → add-pair.Post κs a r₂ x₂
    → (r₁ ≡ r₂) × (x₁.1.0.now ≡ x₂.1.0.now)
add-pair-one κs a r₁ r₂ x₁ x₂ p q = (p.added-is ∙ sym q.added-is, p.entries-are ∙ sym q.entries-are)

-- the third
pub add-bound-one : (κs : Lfts 1) (a : Dens κs add-bound-kinds.ps) (r₁ r₂ : (res_t add-bound-kinds.r κs).Denot)
    (x₁ x₂ : AtExit (ended_of 1 add-bound-kinds.ps add-bound-kinds.r) κs) → add-bound.Post κs a r₁ x₁ → add-bound.Post κs a r₂ x₂
    → (r₁ ≡ r₂) × (x₁.1.1.0.now ≡ x₂.1.1.0.now)
add-bound-one κs a r₁ r₂ x₁ x₂ p q = (p.added-is ∙ sym q.added-is, p.entries-are ∙ sym q.entries-are)
