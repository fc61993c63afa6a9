-- The promise of each public function, as the check reads it, allows one result.
use mathlib.Core.Path.{◌≡◌, sym, ◌∙◌}
use borrow.Fn.Kinds.{Dens, res_t, ended_of}
use denote.Triple.Clauses.{AtExit}
use contract.Lifetimes.{Lfts}
use Rattle.refusals.specs.Numbers.{code-injective}
use Rattle.names.specs.Names.{looked-injective}
use Rattle.names.proofs.check_name.Reads as check-name-reads
use Rattle.names.proofs.check_name.Kinds as check-name-kinds
use Rattle.names.proofs.check_names.Reads as check-names-reads
use Rattle.names.proofs.check_names.Kinds as check-names-kinds
use Rattle.names.proofs.look_up.Reads as look-up-reads
use Rattle.names.proofs.look_up.Kinds as look-up-kinds

pub check-name-one : (κs : Lfts 2) (a : Dens κs check-name-kinds.ps) (r₁ r₂ : (res_t check-name-kinds.r κs).Denot) (x₁ x₂ : AtExit (ended_of 2 check-name-kinds.ps check-name-kinds.r) κs)
    → check-name-reads.Post κs a r₁ x₁ → check-name-reads.Post κs a r₂ x₂ → r₁ ≡ r₂
check-name-one κs a r₁ r₂ x₁ x₂ p q = code-injective r₁ r₂ (p ∙ sym q)

pub check-names-one : (κs : Lfts 3) (a : Dens κs check-names-kinds.ps) (r₁ r₂ : (res_t check-names-kinds.r κs).Denot) (x₁ x₂ : AtExit (ended_of 3 check-names-kinds.ps check-names-kinds.r) κs)
    → check-names-reads.Post κs a r₁ x₁ → check-names-reads.Post κs a r₂ x₂ → r₁ ≡ r₂
check-names-one κs a r₁ r₂ x₁ x₂ p q = code-injective r₁ r₂ (p ∙ sym q)

pub look-up-one : (κs : Lfts 4) (a : Dens κs look-up-kinds.ps) (r₁ r₂ : (res_t look-up-kinds.r κs).Denot) (x₁ x₂ : AtExit (ended_of 4 look-up-kinds.ps look-up-kinds.r) κs)
    → look-up-reads.Post κs a r₁ x₁ → look-up-reads.Post κs a r₂ x₂ → r₁ ≡ r₂
look-up-one κs a r₁ r₂ x₁ x₂ p q = looked-injective r₁ r₂ (p ∙ sym q)
