-- The contract, as the check reads it, allows one outcome: each column.
use mathlib.Core.Path.{◌≡◌, sym, ◌∙◌}
use borrow.Fn.Kinds.{Dens, res_t, ended_of}
use denote.Triple.Clauses.{AtExit}
use contract.Lifetimes.{Lfts}
use Rattle.columnsout.proofs.write_columns.Reads as write-columns
use Rattle.columnsout.proofs.write_columns.Kinds as write-columns-kinds

pub write-columns-one : (κs : Lfts 4) (a : Dens κs write-columns-kinds.ps) (r₁ r₂ : (res_t write-columns-kinds.r κs).Denot) (x₁ x₂ : AtExit (ended_of 4 write-columns-kinds.ps write-columns-kinds.r) κs)
    → write-columns.Post κs a r₁ x₁ → write-columns.Post κs a r₂ x₂
    → (x₁.1.0.now ≡ x₂.1.0.now) × (x₁.1.1.0.now ≡ x₂.1.1.0.now) × (x₁.1.1.1.0.now ≡ x₂.1.1.1.0.now)
write-columns-one κs a r₁ r₂ x₁ x₂ p q = (p.components-are ∙ sym q.components-are, p.kinds-are ∙ sym q.kinds-are, p.types-are ∙ sym q.types-are)
