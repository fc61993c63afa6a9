-- The promise of each public function, as the check reads it, allows one result.
use mathlib.Core.Path.{◌≡◌, sym, ◌∙◌}
use borrow.Fn.Kinds.{Dens, res_t, ended_of}
use denote.Triple.Clauses.{AtExit}
use contract.Lifetimes.{Lfts}
use Rattle.nameorder.proofs.compare_names.Reads as compare-names-reads
use Rattle.nameorder.proofs.compare_names.Kinds as compare-names-kinds
use Rattle.nameorder.proofs.is_not_above.Reads as is-not-above-reads
use Rattle.nameorder.proofs.is_not_above.Kinds as is-not-above-kinds

pub compare-names-one : (κs : Lfts 2) (a : Dens κs compare-names-kinds.ps) (r₁ r₂ : (res_t compare-names-kinds.r κs).Denot) (x₁ x₂ : AtExit (ended_of 2 compare-names-kinds.ps compare-names-kinds.r) κs)
    → compare-names-reads.Post κs a r₁ x₁ → compare-names-reads.Post κs a r₂ x₂ → r₁ ≡ r₂
compare-names-one κs a r₁ r₂ x₁ x₂ p q = p ∙ sym q

pub is-not-above-one : (κs : Lfts 2) (a : Dens κs is-not-above-kinds.ps) (r₁ r₂ : (res_t is-not-above-kinds.r κs).Denot) (x₁ x₂ : AtExit (ended_of 2 is-not-above-kinds.ps is-not-above-kinds.r) κs)
    → is-not-above-reads.Post κs a r₁ x₁ → is-not-above-reads.Post κs a r₂ x₂ → r₁ ≡ r₂
is-not-above-one κs a r₁ r₂ x₁ x₂ p q = p ∙ sym q
