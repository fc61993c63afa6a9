-- The contract of the public function, as the check reads it, allows one result and one content of lent memory.
use mathlib.Core.Path.{◌≡◌, sym, ◌∙◌}
use borrow.Fn.Kinds.{Dens, res_t, ended_of}
use denote.Triple.Clauses.{AtExit}
use contract.Lifetimes.{Lfts}
use Rattle.solverows.proofs.solve_rows.Reads as solve-rows-reads
use Rattle.solverows.proofs.solve_rows.Kinds as solve-rows-kinds

-- the last five parameters of twenty-one are lent
pub solve-rows-one : (κs : Lfts 19) (a : Dens κs solve-rows-kinds.ps) (r₁ r₂ : (res_t solve-rows-kinds.r κs).Denot)
    (x₁ x₂ : AtExit (ended_of 19 solve-rows-kinds.ps solve-rows-kinds.r) κs) → solve-rows-reads.Post κs a r₁ x₁ → solve-rows-reads.Post κs a r₂ x₂
    → (r₁ ≡ r₂)
    × (x₁.1.1.1.1.1.1.1.1.1.1.1.1.1.1.1.1.0.now ≡ x₂.1.1.1.1.1.1.1.1.1.1.1.1.1.1.1.1.0.now)
    × (x₁.1.1.1.1.1.1.1.1.1.1.1.1.1.1.1.1.1.0.now ≡ x₂.1.1.1.1.1.1.1.1.1.1.1.1.1.1.1.1.1.0.now)
    × (x₁.1.1.1.1.1.1.1.1.1.1.1.1.1.1.1.1.1.1.0.now ≡ x₂.1.1.1.1.1.1.1.1.1.1.1.1.1.1.1.1.1.1.0.now)
    × (x₁.1.1.1.1.1.1.1.1.1.1.1.1.1.1.1.1.1.1.1.0.now ≡ x₂.1.1.1.1.1.1.1.1.1.1.1.1.1.1.1.1.1.1.1.0.now)
    × (x₁.1.1.1.1.1.1.1.1.1.1.1.1.1.1.1.1.1.1.1.1.0.now ≡ x₂.1.1.1.1.1.1.1.1.1.1.1.1.1.1.1.1.1.1.1.1.0.now)
solve-rows-one κs a r₁ r₂ x₁ x₂ p q =
    (p.counts ∙ sym q.counts, p.answers ∙ sym q.answers, p.components ∙ sym q.components, p.kinds ∙ sym q.kinds, p.types ∙ sym q.types, p.work ∙ sym q.work)
