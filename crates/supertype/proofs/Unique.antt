-- The promise of `supertype`, as the check reads it, allows one result.
use mathlib.Core.Path.{◌≡◌, sym, ◌∙◌}
use borrow.Fn.Kinds.{Dens, res_t, ended_of}
use denote.Triple.Clauses.{AtExit}
use contract.Lifetimes.{Lfts}
use Rattle.supertype.proofs.supertype.Reads as supertype-reads
use Rattle.supertype.proofs.supertype.Kinds as supertype-kinds

pub supertype-one : (κs : Lfts 2) (a : Dens κs supertype-kinds.ps) (r₁ r₂ : (res_t supertype-kinds.r κs).Denot) (x₁ x₂ : AtExit (ended_of 2 supertype-kinds.ps supertype-kinds.r) κs)
    → supertype-reads.Post κs a r₁ x₁ → supertype-reads.Post κs a r₂ x₂ → r₁ ≡ r₂
supertype-one κs a r₁ r₂ x₁ x₂ p q = p ∙ sym q
