-- The contract of each public function, as the check reads it, allows one result.
use mathlib.Core.Path.{◌≡◌, sym, ◌∙◌}
use borrow.Fn.Kinds.{Dens, res_t, ended_of}
use denote.Triple.Clauses.{AtExit}
use contract.Lifetimes.{Lfts}
use Rattle.hierarchy.proofs.with_parents.Reads as with-parents-reads
use Rattle.hierarchy.proofs.with_parents.Kinds as with-parents-kinds
use Rattle.hierarchy.proofs.expand.Reads as expand-reads
use Rattle.hierarchy.proofs.expand.Kinds as expand-kinds
use Rattle.hierarchy.proofs.reached.Reads as reached-reads
use Rattle.hierarchy.proofs.reached.Kinds as reached-kinds
use Rattle.hierarchy.proofs.ancestors.Reads as ancestors-reads
use Rattle.hierarchy.proofs.ancestors.Kinds as ancestors-kinds
use Rattle.hierarchy.proofs.distance.Reads as distance-reads
use Rattle.hierarchy.proofs.distance.Kinds as distance-kinds
use Rattle.hierarchy.proofs.subtype_relation.Reads as subtype-relation-reads
use Rattle.hierarchy.proofs.subtype_relation.Kinds as subtype-relation-kinds
use Rattle.hierarchy.proofs.cast.Reads as cast-reads
use Rattle.hierarchy.proofs.cast.Kinds as cast-kinds
use Rattle.hierarchy.proofs.recorded.Reads as recorded-reads
use Rattle.hierarchy.proofs.recorded.Kinds as recorded-kinds
use Rattle.hierarchy.proofs.reaches.Reads as reaches-reads
use Rattle.hierarchy.proofs.reaches.Kinds as reaches-kinds
use Rattle.hierarchy.proofs.set_at.Reads as set-at-reads
use Rattle.hierarchy.proofs.set_at.Kinds as set-at-kinds
use Rattle.hierarchy.proofs.is_in.Reads as is-in-reads
use Rattle.hierarchy.proofs.is_in.Kinds as is-in-kinds

pub with-parents-one : (κs : Lfts 2) (a : Dens κs with-parents-kinds.ps) (r₁ r₂ : (res_t with-parents-kinds.r κs).Denot) (x₁ x₂ : AtExit (ended_of 2 with-parents-kinds.ps with-parents-kinds.r) κs)
    → with-parents-reads.Post κs a r₁ x₁ → with-parents-reads.Post κs a r₂ x₂ → r₁ ≡ r₂
with-parents-one κs a r₁ r₂ x₁ x₂ p q = λ i. record { words = (p ∙ sym q) i }

pub expand-one : (κs : Lfts 2) (a : Dens κs expand-kinds.ps) (r₁ r₂ : (res_t expand-kinds.r κs).Denot) (x₁ x₂ : AtExit (ended_of 2 expand-kinds.ps expand-kinds.r) κs)
    → expand-reads.Post κs a r₁ x₁ → expand-reads.Post κs a r₂ x₂ → r₁ ≡ r₂
expand-one κs a r₁ r₂ x₁ x₂ p q = λ i. record { words = (p ∙ sym q) i }

pub reached-one : (κs : Lfts 2) (a : Dens κs reached-kinds.ps) (r₁ r₂ : (res_t reached-kinds.r κs).Denot) (x₁ x₂ : AtExit (ended_of 2 reached-kinds.ps reached-kinds.r) κs)
    → reached-reads.Post κs a r₁ x₁ → reached-reads.Post κs a r₂ x₂ → r₁ ≡ r₂
reached-one κs a r₁ r₂ x₁ x₂ p q = λ i. record { words = (p ∙ sym q) i }

pub ancestors-one : (κs : Lfts 2) (a : Dens κs ancestors-kinds.ps) (r₁ r₂ : (res_t ancestors-kinds.r κs).Denot) (x₁ x₂ : AtExit (ended_of 2 ancestors-kinds.ps ancestors-kinds.r) κs)
    → ancestors-reads.Post κs a r₁ x₁ → ancestors-reads.Post κs a r₂ x₂ → r₁ ≡ r₂
ancestors-one κs a r₁ r₂ x₁ x₂ p q = λ i. record { words = (p ∙ sym q) i }

pub distance-one : (κs : Lfts 2) (a : Dens κs distance-kinds.ps) (r₁ r₂ : (res_t distance-kinds.r κs).Denot) (x₁ x₂ : AtExit (ended_of 2 distance-kinds.ps distance-kinds.r) κs)
    → distance-reads.Post κs a r₁ x₁ → distance-reads.Post κs a r₂ x₂ → r₁ ≡ r₂
distance-one κs a r₁ r₂ x₁ x₂ p q = p ∙ sym q

pub subtype-relation-one : (κs : Lfts 2) (a : Dens κs subtype-relation-kinds.ps) (r₁ r₂ : (res_t subtype-relation-kinds.r κs).Denot) (x₁ x₂ : AtExit (ended_of 2 subtype-relation-kinds.ps subtype-relation-kinds.r) κs)
    → subtype-relation-reads.Post κs a r₁ x₁ → subtype-relation-reads.Post κs a r₂ x₂ → r₁ ≡ r₂
subtype-relation-one κs a r₁ r₂ x₁ x₂ p q = p ∙ sym q

pub cast-one : (κs : Lfts 2) (a : Dens κs cast-kinds.ps) (r₁ r₂ : (res_t cast-kinds.r κs).Denot) (x₁ x₂ : AtExit (ended_of 2 cast-kinds.ps cast-kinds.r) κs)
    → cast-reads.Post κs a r₁ x₁ → cast-reads.Post κs a r₂ x₂ → r₁ ≡ r₂
cast-one κs a r₁ r₂ x₁ x₂ p q = p ∙ sym q

pub reaches-one : (κs : Lfts 2) (a : Dens κs reaches-kinds.ps) (r₁ r₂ : (res_t reaches-kinds.r κs).Denot) (x₁ x₂ : AtExit (ended_of 2 reaches-kinds.ps reaches-kinds.r) κs)
    → reaches-reads.Post κs a r₁ x₁ → reaches-reads.Post κs a r₂ x₂ → r₁ ≡ r₂
reaches-one κs a r₁ r₂ x₁ x₂ p q = p ∙ sym q

pub recorded-one : (κs : Lfts 1) (a : Dens κs recorded-kinds.ps) (r₁ r₂ : (res_t recorded-kinds.r κs).Denot) (x₁ x₂ : AtExit (ended_of 1 recorded-kinds.ps recorded-kinds.r) κs)
    → recorded-reads.Post κs a r₁ x₁ → recorded-reads.Post κs a r₂ x₂ → r₁ ≡ r₂
recorded-one κs a r₁ r₂ x₁ x₂ p q = λ i. record { words = (p ∙ sym q) i }

pub set-at-one : (κs : Lfts 1) (a : Dens κs set-at-kinds.ps) (r₁ r₂ : (res_t set-at-kinds.r κs).Denot) (x₁ x₂ : AtExit (ended_of 1 set-at-kinds.ps set-at-kinds.r) κs)
    → set-at-reads.Post κs a r₁ x₁ → set-at-reads.Post κs a r₂ x₂ → r₁ ≡ r₂
set-at-one κs a r₁ r₂ x₁ x₂ p q = λ i. record { words = (p ∙ sym q) i }

pub is-in-one : (κs : Lfts 1) (a : Dens κs is-in-kinds.ps) (r₁ r₂ : (res_t is-in-kinds.r κs).Denot) (x₁ x₂ : AtExit (ended_of 1 is-in-kinds.ps is-in-kinds.r) κs)
    → is-in-reads.Post κs a r₁ x₁ → is-in-reads.Post κs a r₂ x₂ → r₁ ≡ r₂
is-in-one κs a r₁ r₂ x₁ x₂ p q = p ∙ sym q
