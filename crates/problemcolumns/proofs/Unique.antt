-- The contract of each public function, and of the inner one that makes the entries, as the check reads it, allows one outcome.
use mathlib.Core.Path.{◌≡◌, sym, ◌∙◌}
use borrow.Fn.Kinds.{Dens, res_t, ended_of}
use denote.Triple.Clauses.{AtExit}
use contract.Lifetimes.{Lfts}
use Rattle.problemcolumns.proofs.is_even_problem.Reads as is-even-problem
use Rattle.problemcolumns.proofs.is_even_problem.Kinds as is-even-problem-kinds
use Rattle.problemcolumns.proofs.build_entries.Reads as build-entries
use Rattle.problemcolumns.proofs.build_entries.Kinds as build-entries-kinds
use Rattle.problemcolumns.proofs.build_problem.Reads as build-problem
use Rattle.problemcolumns.proofs.build_problem.Kinds as build-problem-kinds

pub is-even-problem-one : (κs : Lfts 0) (a : Dens κs is-even-problem-kinds.ps) (r₁ r₂ : (res_t is-even-problem-kinds.r κs).Denot)
    (x₁ x₂ : AtExit (ended_of 0 is-even-problem-kinds.ps is-even-problem-kinds.r) κs) → is-even-problem.Post κs a r₁ x₁ → is-even-problem.Post κs a r₂ x₂ → r₁ ≡ r₂
is-even-problem-one κs a r₁ r₂ x₁ x₂ p q = p ∙ sym q

-- the last five parameters are lent
pub build-entries-one : (κs : Lfts 17) (a : Dens κs build-entries-kinds.ps) (r₁ r₂ : (res_t build-entries-kinds.r κs).Denot)
    (x₁ x₂ : AtExit (ended_of 17 build-entries-kinds.ps build-entries-kinds.r) κs) → build-entries.Post κs a r₁ x₁ → build-entries.Post κs a r₂ x₂
    → (r₁ ≡ r₂)
    × (x₁.1.1.1.1.1.1.1.1.1.1.1.1.1.1.0.now ≡ x₂.1.1.1.1.1.1.1.1.1.1.1.1.1.1.0.now)
    × (x₁.1.1.1.1.1.1.1.1.1.1.1.1.1.1.1.0.now ≡ x₂.1.1.1.1.1.1.1.1.1.1.1.1.1.1.1.0.now)
    × (x₁.1.1.1.1.1.1.1.1.1.1.1.1.1.1.1.1.0.now ≡ x₂.1.1.1.1.1.1.1.1.1.1.1.1.1.1.1.1.0.now)
    × (x₁.1.1.1.1.1.1.1.1.1.1.1.1.1.1.1.1.1.0.now ≡ x₂.1.1.1.1.1.1.1.1.1.1.1.1.1.1.1.1.1.0.now)
    × (x₁.1.1.1.1.1.1.1.1.1.1.1.1.1.1.1.1.1.1.0.now ≡ x₂.1.1.1.1.1.1.1.1.1.1.1.1.1.1.1.1.1.1.0.now)
build-entries-one κs a r₁ r₂ x₁ x₂ p q = (
  p.counts-are ∙ sym q.counts-are,
  p.bounds-are ∙ sym q.bounds-are,
  p.flows-are ∙ sym q.flows-are,
  p.uppers-are ∙ sym q.uppers-are,
  p.reads-are ∙ sym q.reads-are,
  p.writes-are ∙ sym q.writes-are,
)

pub build-problem-one : (κs : Lfts 17) (a : Dens κs build-problem-kinds.ps) (r₁ r₂ : (res_t build-problem-kinds.r κs).Denot)
    (x₁ x₂ : AtExit (ended_of 17 build-problem-kinds.ps build-problem-kinds.r) κs) → build-problem.Post κs a r₁ x₁ → build-problem.Post κs a r₂ x₂
    → (r₁ ≡ r₂)
    × (x₁.1.1.1.1.1.1.1.1.1.1.1.1.1.1.0.now ≡ x₂.1.1.1.1.1.1.1.1.1.1.1.1.1.1.0.now)
    × (x₁.1.1.1.1.1.1.1.1.1.1.1.1.1.1.1.0.now ≡ x₂.1.1.1.1.1.1.1.1.1.1.1.1.1.1.1.0.now)
    × (x₁.1.1.1.1.1.1.1.1.1.1.1.1.1.1.1.1.0.now ≡ x₂.1.1.1.1.1.1.1.1.1.1.1.1.1.1.1.1.0.now)
    × (x₁.1.1.1.1.1.1.1.1.1.1.1.1.1.1.1.1.1.0.now ≡ x₂.1.1.1.1.1.1.1.1.1.1.1.1.1.1.1.1.1.0.now)
    × (x₁.1.1.1.1.1.1.1.1.1.1.1.1.1.1.1.1.1.1.0.now ≡ x₂.1.1.1.1.1.1.1.1.1.1.1.1.1.1.1.1.1.1.0.now)
build-problem-one κs a r₁ r₂ x₁ x₂ p q = (
  p.counts-are ∙ sym q.counts-are,
  p.bounds-are ∙ sym q.bounds-are,
  p.flows-are ∙ sym q.flows-are,
  p.uppers-are ∙ sym q.uppers-are,
  p.reads-are ∙ sym q.reads-are,
  p.writes-are ∙ sym q.writes-are,
)
