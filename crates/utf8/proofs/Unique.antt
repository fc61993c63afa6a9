-- The promises of the public functions, as the check reads them (`Reads.Post`), allow one result.
use mathlib.Core.Path.{◌≡◌, sym, ◌∙◌}
use borrow.Fn.Kinds.{Dens, res_t, ended_of}
use denote.Triple.Clauses.{AtExit}
use contract.Lifetimes.{Lfts}
use Rattle.utf8.proofs.valid_up_to.Reads as valid-up-to-reads
use Rattle.utf8.proofs.valid_up_to.Kinds as valid-up-to-kinds
use Rattle.utf8.proofs.is_well_formed.Reads as is-well-formed-reads
use Rattle.utf8.proofs.is_well_formed.Kinds as is-well-formed-kinds

pub valid-up-to-one : (κs : Lfts 1) (a : Dens κs valid-up-to-kinds.ps) (r₁ r₂ : (res_t valid-up-to-kinds.r κs).Denot)
    (x₁ x₂ : AtExit (ended_of 1 valid-up-to-kinds.ps valid-up-to-kinds.r) κs) → valid-up-to-reads.Post κs a r₁ x₁ → valid-up-to-reads.Post κs a r₂ x₂ → r₁ ≡ r₂
valid-up-to-one κs a r₁ r₂ x₁ x₂ p q = p ∙ sym q

pub is-well-formed-one : (κs : Lfts 1) (a : Dens κs is-well-formed-kinds.ps) (r₁ r₂ : (res_t is-well-formed-kinds.r κs).Denot)
    (x₁ x₂ : AtExit (ended_of 1 is-well-formed-kinds.ps is-well-formed-kinds.r) κs) → is-well-formed-reads.Post κs a r₁ x₁ → is-well-formed-reads.Post κs a r₂ x₂ → r₁ ≡ r₂
is-well-formed-one κs a r₁ r₂ x₁ x₂ p q = p ∙ sym q
