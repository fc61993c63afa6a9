-- The contract of each public function, as the check reads it, allows one outcome.
use mathlib.Core.Path.{◌≡◌, sym, ◌∙◌}
use borrow.Fn.Kinds.{Dens, res_t, ended_of}
use denote.Triple.Clauses.{AtExit}
use contract.Lifetimes.{Lfts}
use Rattle.ancestry.specs.Spread.{spread-unique}
use Rattle.ancestry.specs.Closure.{rows-unique}
use Rattle.ancestry.proofs.spread.Reads as spread-reads
use Rattle.ancestry.proofs.spread.Kinds as spread-kinds
use Rattle.ancestry.proofs.row_of.Reads as row-of-reads
use Rattle.ancestry.proofs.row_of.Kinds as row-of-kinds
use Rattle.ancestry.proofs.is_in.Reads as is-in-reads
use Rattle.ancestry.proofs.is_in.Kinds as is-in-kinds
use Rattle.ancestry.proofs.fill.Reads as fill-reads
use Rattle.ancestry.proofs.fill.Kinds as fill-kinds

pub spread-one : (κs : Lfts 2) (a : Dens κs spread-kinds.ps) (r₁ r₂ : (res_t spread-kinds.r κs).Denot) (x₁ x₂ : AtExit (ended_of 2 spread-kinds.ps spread-kinds.r) κs)
    → spread-reads.Post κs a r₁ x₁ → spread-reads.Post κs a r₂ x₂ → r₁ ≡ r₂
spread-one κs a r₁ r₂ x₁ x₂ p q = λ i. record { words = spread-unique _ _ r₁.words r₂.words p q i }

pub row-of-one : (κs : Lfts 1) (a : Dens κs row-of-kinds.ps) (r₁ r₂ : (res_t row-of-kinds.r κs).Denot) (x₁ x₂ : AtExit (ended_of 1 row-of-kinds.ps row-of-kinds.r) κs)
    → row-of-reads.Post κs a r₁ x₁ → row-of-reads.Post κs a r₂ x₂ → r₁ ≡ r₂
row-of-one κs a r₁ r₂ x₁ x₂ p q = λ i. record { words = (p ∙ sym q) i }

pub is-in-one : (κs : Lfts 1) (a : Dens κs is-in-kinds.ps) (r₁ r₂ : (res_t is-in-kinds.r κs).Denot) (x₁ x₂ : AtExit (ended_of 1 is-in-kinds.ps is-in-kinds.r) κs)
    → is-in-reads.Post κs a r₁ x₁ → is-in-reads.Post κs a r₂ x₂ → r₁ ≡ r₂
is-in-one κs a r₁ r₂ x₁ x₂ p q = p ∙ sym q

-- the fifth parameter is lent
pub fill-one : (κs : Lfts 3) (a : Dens κs fill-kinds.ps) (r₁ r₂ : (res_t fill-kinds.r κs).Denot) (x₁ x₂ : AtExit (ended_of 3 fill-kinds.ps fill-kinds.r) κs)
    → fill-reads.Post κs a r₁ x₁ → fill-reads.Post κs a r₂ x₂ → x₁.1.1.1.1.0.now ≡ x₂.1.1.1.1.0.now
fill-one κs a r₁ r₂ x₁ x₂ p q = rows-unique _ _ _ _ p q
