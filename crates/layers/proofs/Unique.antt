-- The contract of each public function, as the check reads it, allows one outcome.
use mathlib.Core.Path.{◌≡◌, sym, ◌∙◌}
use borrow.Fn.Kinds.{Dens, res_t, ended_of}
use denote.Triple.Clauses.{AtExit}
use contract.Lifetimes.{Lfts}
use Rattle.layers.proofs.add_layer_record.Reads as reads
use Rattle.layers.proofs.add_layer_record.Kinds as kinds
use Rattle.layers.proofs.add_to_stack.Reads as stack-reads
use Rattle.layers.proofs.add_to_stack.Kinds as stack-kinds
use Rattle.layers.proofs.open_layer.Reads as open-reads
use Rattle.layers.proofs.open_layer.Kinds as open-kinds

-- the fourth and the fifth parameter are lent
pub add-layer-record-one : (κs : Lfts 3) (a : Dens κs kinds.ps) (r₁ r₂ : (res_t kinds.r κs).Denot) (x₁ x₂ : AtExit (ended_of 3 kinds.ps kinds.r) κs)
    → reads.Post κs a r₁ x₁ → reads.Post κs a r₂ x₂
    → (r₁ ≡ r₂) × (x₁.1.1.1.0.now ≡ x₂.1.1.1.0.now) × (x₁.1.1.1.1.0.now ≡ x₂.1.1.1.1.0.now)
add-layer-record-one κs a r₁ r₂ x₁ x₂ p q = (
  p.outcome-is ∙ sym q.outcome-is,
  p.pairs-are ∙ sym q.pairs-are,
  p.marks-are ∙ sym q.marks-are,
)

pub add-to-stack-one : (κs : Lfts 3) (a : Dens κs stack-kinds.ps) (r₁ r₂ : (res_t stack-kinds.r κs).Denot) (x₁ x₂ : AtExit (ended_of 3 stack-kinds.ps stack-kinds.r) κs)
    → stack-reads.Post κs a r₁ x₁ → stack-reads.Post κs a r₂ x₂
    → (r₁ ≡ r₂) × (x₁.1.1.1.0.now ≡ x₂.1.1.1.0.now) × (x₁.1.1.1.1.0.now ≡ x₂.1.1.1.1.0.now)
add-to-stack-one κs a r₁ r₂ x₁ x₂ p q = (
  p.outcome-is ∙ sym q.outcome-is,
  p.pairs-are ∙ sym q.pairs-are,
  p.marks-are ∙ sym q.marks-are,
)

pub open-layer-one : (κs : Lfts 0) (a : Dens κs open-kinds.ps) (r₁ r₂ : (res_t open-kinds.r κs).Denot) (x₁ x₂ : AtExit (ended_of 0 open-kinds.ps open-kinds.r) κs)
    → open-reads.Post κs a r₁ x₁ → open-reads.Post κs a r₂ x₂ → r₁ ≡ r₂
open-layer-one κs a r₁ r₂ x₁ x₂ p q = p ∙ sym q
