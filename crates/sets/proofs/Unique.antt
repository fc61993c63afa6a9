-- Each function's contract, as the check reads it (`Reads.Post`), allows one result: two results that both meet it are equal, a `Set` as a whole.
use mathlib.Core.Path.{◌≡◌, sym, ◌∙◌}
use borrow.Fn.Kinds.{Dens, res_t, ended_of}
use denote.Triple.Clauses.{AtExit}
use contract.Lifetimes.{Lfts}
use Rattle.sets.proofs.Set.empty.Reads as empty-reads
use Rattle.sets.proofs.Set.empty.Kinds as empty-kinds
use Rattle.sets.proofs.Set.has.Reads as has-reads
use Rattle.sets.proofs.Set.has.Kinds as has-kinds
use Rattle.sets.proofs.Set.with.Reads as with-reads
use Rattle.sets.proofs.Set.with.Kinds as with-kinds
use Rattle.sets.proofs.Set.without.Reads as without-reads
use Rattle.sets.proofs.Set.without.Kinds as without-kinds
use Rattle.sets.proofs.Set.union.Reads as union-reads
use Rattle.sets.proofs.Set.union.Kinds as union-kinds
use Rattle.sets.proofs.Set.intersection.Reads as intersection-reads
use Rattle.sets.proofs.Set.intersection.Kinds as intersection-kinds
use Rattle.sets.proofs.Set.difference.Reads as difference-reads
use Rattle.sets.proofs.Set.difference.Kinds as difference-kinds
use Rattle.sets.proofs.Set.count.Reads as count-reads
use Rattle.sets.proofs.Set.count.Kinds as count-kinds
use Rattle.sets.proofs.Set.lowest.Reads as lowest-reads
use Rattle.sets.proofs.Set.lowest.Kinds as lowest-kinds
use Rattle.sets.proofs.Set.same.Reads as same_Reads
use Rattle.sets.proofs.Set.same.Kinds as same-kinds

pub empty-one : (κs : Lfts 0) (a : Dens κs empty-kinds.ps) (r₁ r₂ : (res_t empty-kinds.r κs).Denot) (x₁ x₂ : AtExit (ended_of 0 empty-kinds.ps empty-kinds.r) κs)
    → empty-reads.Post κs a r₁ x₁ → empty-reads.Post κs a r₂ x₂ → r₁ ≡ r₂
empty-one κs a r₁ r₂ x₁ x₂ p q = λ i. record { words = (p ∙ sym q) i }

pub has-one : (κs : Lfts 0) (a : Dens κs has-kinds.ps) (r₁ r₂ : (res_t has-kinds.r κs).Denot) (x₁ x₂ : AtExit (ended_of 0 has-kinds.ps has-kinds.r) κs)
    → has-reads.Post κs a r₁ x₁ → has-reads.Post κs a r₂ x₂ → r₁ ≡ r₂
has-one κs a r₁ r₂ x₁ x₂ p q = p ∙ sym q

pub with-one : (κs : Lfts 0) (a : Dens κs with-kinds.ps) (r₁ r₂ : (res_t with-kinds.r κs).Denot) (x₁ x₂ : AtExit (ended_of 0 with-kinds.ps with-kinds.r) κs)
    → with-reads.Post κs a r₁ x₁ → with-reads.Post κs a r₂ x₂ → r₁ ≡ r₂
with-one κs a r₁ r₂ x₁ x₂ p q = λ i. record { words = (p ∙ sym q) i }

pub without-one : (κs : Lfts 0) (a : Dens κs without-kinds.ps) (r₁ r₂ : (res_t without-kinds.r κs).Denot) (x₁ x₂ : AtExit (ended_of 0 without-kinds.ps without-kinds.r) κs)
    → without-reads.Post κs a r₁ x₁ → without-reads.Post κs a r₂ x₂ → r₁ ≡ r₂
without-one κs a r₁ r₂ x₁ x₂ p q = λ i. record { words = (p ∙ sym q) i }

pub union-one : (κs : Lfts 0) (a : Dens κs union-kinds.ps) (r₁ r₂ : (res_t union-kinds.r κs).Denot) (x₁ x₂ : AtExit (ended_of 0 union-kinds.ps union-kinds.r) κs)
    → union-reads.Post κs a r₁ x₁ → union-reads.Post κs a r₂ x₂ → r₁ ≡ r₂
union-one κs a r₁ r₂ x₁ x₂ p q = λ i. record { words = (p ∙ sym q) i }

pub intersection-one : (κs : Lfts 0) (a : Dens κs intersection-kinds.ps) (r₁ r₂ : (res_t intersection-kinds.r κs).Denot) (x₁ x₂ : AtExit (ended_of 0 intersection-kinds.ps intersection-kinds.r) κs)
    → intersection-reads.Post κs a r₁ x₁ → intersection-reads.Post κs a r₂ x₂ → r₁ ≡ r₂
intersection-one κs a r₁ r₂ x₁ x₂ p q = λ i. record { words = (p ∙ sym q) i }

pub difference-one : (κs : Lfts 0) (a : Dens κs difference-kinds.ps) (r₁ r₂ : (res_t difference-kinds.r κs).Denot) (x₁ x₂ : AtExit (ended_of 0 difference-kinds.ps difference-kinds.r) κs)
    → difference-reads.Post κs a r₁ x₁ → difference-reads.Post κs a r₂ x₂ → r₁ ≡ r₂
difference-one κs a r₁ r₂ x₁ x₂ p q = λ i. record { words = (p ∙ sym q) i }

pub count-one : (κs : Lfts 0) (a : Dens κs count-kinds.ps) (r₁ r₂ : (res_t count-kinds.r κs).Denot) (x₁ x₂ : AtExit (ended_of 0 count-kinds.ps count-kinds.r) κs)
    → count-reads.Post κs a r₁ x₁ → count-reads.Post κs a r₂ x₂ → r₁ ≡ r₂
count-one κs a r₁ r₂ x₁ x₂ p q = p ∙ sym q

pub lowest-one : (κs : Lfts 0) (a : Dens κs lowest-kinds.ps) (r₁ r₂ : (res_t lowest-kinds.r κs).Denot) (x₁ x₂ : AtExit (ended_of 0 lowest-kinds.ps lowest-kinds.r) κs)
    → lowest-reads.Post κs a r₁ x₁ → lowest-reads.Post κs a r₂ x₂ → r₁ ≡ r₂
lowest-one κs a r₁ r₂ x₁ x₂ p q = p ∙ sym q

pub same-one : (κs : Lfts 0) (a : Dens κs same-kinds.ps) (r₁ r₂ : (res_t same-kinds.r κs).Denot) (x₁ x₂ : AtExit (ended_of 0 same-kinds.ps same-kinds.r) κs)
    → same_Reads.Post κs a r₁ x₁ → same_Reads.Post κs a r₂ x₂ → r₁ ≡ r₂
same-one κs a r₁ r₂ x₁ x₂ p q = p ∙ sym q
