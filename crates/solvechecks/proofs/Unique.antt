-- The contracts of the public functions, as the check reads them, allow one result and one content of lent memory.
use mathlib.Core.Path.{◌≡◌, sym, ◌∙◌}
use borrow.Fn.Kinds.{Dens, res_t, ended_of}
use denote.Triple.Clauses.{AtExit}
use contract.Lifetimes.{Lfts}
use Rattle.solvechecks.proofs.lengths_refusal.Reads as lengths-refusal-reads
use Rattle.solvechecks.proofs.lengths_refusal.Kinds as lengths-refusal-kinds
use Rattle.solvechecks.proofs.rows_refusal.Reads as rows-refusal-reads
use Rattle.solvechecks.proofs.rows_refusal.Kinds as rows-refusal-kinds
use Rattle.solvechecks.proofs.refuse.Reads as refuse-reads
use Rattle.solvechecks.proofs.refuse.Kinds as refuse-kinds
use Rattle.solvechecks.proofs.refuse_lengths.Reads as refuse-lengths-reads
use Rattle.solvechecks.proofs.refuse_lengths.Kinds as refuse-lengths-kinds

pub lengths-refusal-one : (κs : Lfts 0) (a : Dens κs lengths-refusal-kinds.ps) (r₁ r₂ : (res_t lengths-refusal-kinds.r κs).Denot)
    (x₁ x₂ : AtExit (ended_of 0 lengths-refusal-kinds.ps lengths-refusal-kinds.r) κs) → lengths-refusal-reads.Post κs a r₁ x₁ → lengths-refusal-reads.Post κs a r₂ x₂ → r₁ ≡ r₂
lengths-refusal-one κs a r₁ r₂ x₁ x₂ p q = p ∙ sym q

pub rows-refusal-one : (κs : Lfts 0) (a : Dens κs rows-refusal-kinds.ps) (r₁ r₂ : (res_t rows-refusal-kinds.r κs).Denot)
    (x₁ x₂ : AtExit (ended_of 0 rows-refusal-kinds.ps rows-refusal-kinds.r) κs) → rows-refusal-reads.Post κs a r₁ x₁ → rows-refusal-reads.Post κs a r₂ x₂ → r₁ ≡ r₂
rows-refusal-one κs a r₁ r₂ x₁ x₂ p q = p ∙ sym q

pub refuse-one : (κs : Lfts 1) (a : Dens κs refuse-kinds.ps) (r₁ r₂ : (res_t refuse-kinds.r κs).Denot)
    (x₁ x₂ : AtExit (ended_of 1 refuse-kinds.ps refuse-kinds.r) κs) → refuse-reads.Post κs a r₁ x₁ → refuse-reads.Post κs a r₂ x₂
    → (r₁ ≡ r₂) × (x₁.1.0.now ≡ x₂.1.0.now)
refuse-one κs a r₁ r₂ x₁ x₂ p q = (p.0 ∙ sym q.0, p.1 ∙ sym q.1)

pub refuse-lengths-one : (κs : Lfts 1) (a : Dens κs refuse-lengths-kinds.ps) (r₁ r₂ : (res_t refuse-lengths-kinds.r κs).Denot)
    (x₁ x₂ : AtExit (ended_of 1 refuse-lengths-kinds.ps refuse-lengths-kinds.r) κs) → refuse-lengths-reads.Post κs a r₁ x₁ → refuse-lengths-reads.Post κs a r₂ x₂
    → (r₁ ≡ r₂) × (x₁.1.0.now ≡ x₂.1.0.now)
refuse-lengths-one κs a r₁ r₂ x₁ x₂ p q = (p.0 ∙ sym q.0, p.1 ∙ sym q.1)
