-- The contract of each public function, as the check reads it, allows one result.
use mathlib.Core.Path.{◌≡◌, sym, ◌∙◌}
use borrow.Fn.Kinds.{Dens, res_t, ended_of}
use denote.Triple.Clauses.{AtExit}
use contract.Lifetimes.{Lfts}
use Rattle.frameheads.proofs.rank_of.Reads as rank-of
use Rattle.frameheads.proofs.rank_of.Kinds as rank-of-kinds
use Rattle.frameheads.proofs.check_head.Reads as check-head
use Rattle.frameheads.proofs.check_head.Kinds as check-head-kinds

pub rank-of-one : (κs : Lfts 0) (a : Dens κs rank-of-kinds.ps) (r₁ r₂ : (res_t rank-of-kinds.r κs).Denot)
    (x₁ x₂ : AtExit (ended_of 0 rank-of-kinds.ps rank-of-kinds.r) κs) → rank-of.Post κs a r₁ x₁ → rank-of.Post κs a r₂ x₂ → r₁ ≡ r₂
rank-of-one κs a r₁ r₂ x₁ x₂ p q = p ∙ sym q

pub check-head-one : (κs : Lfts 0) (a : Dens κs check-head-kinds.ps) (r₁ r₂ : (res_t check-head-kinds.r κs).Denot)
    (x₁ x₂ : AtExit (ended_of 0 check-head-kinds.ps check-head-kinds.r) κs) → check-head.Post κs a r₁ x₁ → check-head.Post κs a r₂ x₂ → r₁ ≡ r₂
check-head-one κs a r₁ r₂ x₁ x₂ p q = p ∙ sym q
