-- The contract, as the check reads it, allows one outcome: the lent slice.
use mathlib.Core.Path.{◌≡◌, sym, ◌∙◌}
use borrow.Fn.Kinds.{Dens, res_t, ended_of}
use denote.Triple.Clauses.{AtExit}
use contract.Lifetimes.{Lfts}
use Rattle.clearing.proofs.clear.Reads as clear
use Rattle.clearing.proofs.clear.Kinds as clear-kinds

pub clear-one : (κs : Lfts 1) (a : Dens κs clear-kinds.ps) (r₁ r₂ : (res_t clear-kinds.r κs).Denot) (x₁ x₂ : AtExit (ended_of 1 clear-kinds.ps clear-kinds.r) κs)
    → clear.Post κs a r₁ x₁ → clear.Post κs a r₂ x₂ → x₁.0.now ≡ x₂.0.now
clear-one κs a r₁ r₂ x₁ x₂ p q = p ∙ sym q
