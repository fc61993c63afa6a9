-- The contract of each public function, as the check reads it, allows one result.
use mathlib.Core.Path.{◌≡◌, sym, ◌∙◌}
use borrow.Fn.Kinds.{Dens, res_t, ended_of}
use denote.Triple.Clauses.{AtExit}
use contract.Lifetimes.{Lfts}
use Rattle.prepared.specs.Prepared.{laid-unique}
use Rattle.prepared.proofs.reached_from.Reads as reached-from-reads
use Rattle.prepared.proofs.reached_from.Kinds as reached-from-kinds
use Rattle.prepared.proofs.reaches.Reads as reaches-reads
use Rattle.prepared.proofs.reaches.Kinds as reaches-kinds
use Rattle.prepared.proofs.relation_of.Reads as relation-of-reads
use Rattle.prepared.proofs.relation_of.Kinds as relation-of-kinds
use Rattle.prepared.proofs.prepare.Reads as prepare-reads
use Rattle.prepared.proofs.prepare.Kinds as prepare-kinds

pub reached-from-one : (κs : Lfts 2) (a : Dens κs reached-from-kinds.ps) (r₁ r₂ : (res_t reached-from-kinds.r κs).Denot) (x₁ x₂ : AtExit (ended_of 2 reached-from-kinds.ps reached-from-kinds.r) κs)
    → reached-from-reads.Post κs a r₁ x₁ → reached-from-reads.Post κs a r₂ x₂ → r₁ ≡ r₂
reached-from-one κs a r₁ r₂ x₁ x₂ p q = λ i. record { words = (p ∙ sym q) i }

pub reaches-one : (κs : Lfts 2) (a : Dens κs reaches-kinds.ps) (r₁ r₂ : (res_t reaches-kinds.r κs).Denot) (x₁ x₂ : AtExit (ended_of 2 reaches-kinds.ps reaches-kinds.r) κs)
    → reaches-reads.Post κs a r₁ x₁ → reaches-reads.Post κs a r₂ x₂ → r₁ ≡ r₂
reaches-one κs a r₁ r₂ x₁ x₂ p q = p ∙ sym q

pub relation-of-one : (κs : Lfts 2) (a : Dens κs relation-of-kinds.ps) (r₁ r₂ : (res_t relation-of-kinds.r κs).Denot) (x₁ x₂ : AtExit (ended_of 2 relation-of-kinds.ps relation-of-kinds.r) κs)
    → relation-of-reads.Post κs a r₁ x₁ → relation-of-reads.Post κs a r₂ x₂ → r₁ ≡ r₂
relation-of-one κs a r₁ r₂ x₁ x₂ p q = p ∙ sym q

-- the fifth parameter is lent
pub prepare-one : (κs : Lfts 3) (a : Dens κs prepare-kinds.ps) (r₁ r₂ : (res_t prepare-kinds.r κs).Denot) (x₁ x₂ : AtExit (ended_of 3 prepare-kinds.ps prepare-kinds.r) κs)
    → prepare-reads.Post κs a r₁ x₁ → prepare-reads.Post κs a r₂ x₂ → x₁.1.1.1.1.0.now ≡ x₂.1.1.1.1.0.now
prepare-one κs a r₁ r₂ x₁ x₂ p q = laid-unique _ _ _ _ _ _ p q
