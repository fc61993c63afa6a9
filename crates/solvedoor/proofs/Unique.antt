-- The contract of the public function, as the check reads it, allows one result and one content of lent memory.
use mathlib.Core.Path.{◌≡◌, sym, ◌∙◌}
use borrow.Fn.Kinds.{Dens, res_t, ended_of}
use denote.Triple.Clauses.{AtExit}
use contract.Lifetimes.{Lfts}
use Rattle.solvedoor.proofs.solve_slices.Reads as solve-slices-reads
use Rattle.solvedoor.proofs.solve_slices.Kinds as solve-slices-kinds

-- the last five parameters of nineteen are lent
pub solve-slices-one : (κs : Lfts 19) (a : Dens κs solve-slices-kinds.ps) (r₁ r₂ : (res_t solve-slices-kinds.r κs).Denot)
    (x₁ x₂ : AtExit (ended_of 19 solve-slices-kinds.ps solve-slices-kinds.r) κs) → solve-slices-reads.Post κs a r₁ x₁ → solve-slices-reads.Post κs a r₂ x₂
    → (r₁ ≡ r₂)
    × (x₁.1.1.1.1.1.1.1.1.1.1.1.1.1.1.0.now ≡ x₂.1.1.1.1.1.1.1.1.1.1.1.1.1.1.0.now)
    × (x₁.1.1.1.1.1.1.1.1.1.1.1.1.1.1.1.0.now ≡ x₂.1.1.1.1.1.1.1.1.1.1.1.1.1.1.1.0.now)
    × (x₁.1.1.1.1.1.1.1.1.1.1.1.1.1.1.1.1.0.now ≡ x₂.1.1.1.1.1.1.1.1.1.1.1.1.1.1.1.1.0.now)
    × (x₁.1.1.1.1.1.1.1.1.1.1.1.1.1.1.1.1.1.0.now ≡ x₂.1.1.1.1.1.1.1.1.1.1.1.1.1.1.1.1.1.0.now)
    × (x₁.1.1.1.1.1.1.1.1.1.1.1.1.1.1.1.1.1.1.0.now ≡ x₂.1.1.1.1.1.1.1.1.1.1.1.1.1.1.1.1.1.1.0.now)
solve-slices-one κs a r₁ r₂ x₁ x₂ p q =
    let m = p.memory in
    let n = q.memory in
    (p.counts ∙ sym q.counts, m.answers ∙ sym n.answers, m.components ∙ sym n.components, m.kinds ∙ sym n.kinds, m.types ∙ sym n.types, m.work ∙ sym n.work)
