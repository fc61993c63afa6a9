-- The contract of asks, as the check reads it, allows one outcome.
use mathlib.Core.Path.{◌≡◌, sym, ◌∙◌}
use borrow.Fn.Kinds.{Dens, res_t, ended_of}
use denote.Triple.Clauses.{AtExit}
use contract.Lifetimes.{Lfts}
use Rattle.asking.proofs.asks.Reads as asks
use Rattle.asking.proofs.asks.Kinds as asks-kinds

pub asks-one : (κs : Lfts 3) (a : Dens κs asks-kinds.ps) (r₁ r₂ : (res_t asks-kinds.r κs).Denot) (x₁ x₂ : AtExit (ended_of 3 asks-kinds.ps asks-kinds.r) κs)
    → asks.Post κs a r₁ x₁ → asks.Post κs a r₂ x₂ → r₁ ≡ r₂
asks-one κs a r₁ r₂ x₁ x₂ p q = p ∙ sym q
