-- The contract of each public function, as the check reads it, allows one result and one content of lent memory.
use mathlib.Core.Path.{◌≡◌, sym, ◌∙◌}
use borrow.Fn.Kinds.{Dens, res_t, ended_of}
use denote.Triple.Clauses.{AtExit}
use contract.Lifetimes.{Lfts}
use lib.ListN.{take}
use Rattle.layercolumns.specs.Laws.{shows-one}
use Rattle.questions.proofs.build_table.Reads as build-table-reads
use Rattle.questions.proofs.build_table.Kinds as build-table-kinds
use Rattle.questions.proofs.ask.Reads as ask-reads
use Rattle.questions.proofs.ask.Kinds as ask-kinds
use Rattle.questions.proofs.ancestors_of.Reads as ancestors-of-reads
use Rattle.questions.proofs.ancestors_of.Kinds as ancestors-of-kinds

-- the last two parameters of three are lent; of the pairs as far as there are keys
pub build-table-one : (κs : Lfts 4) (a : Dens κs build-table-kinds.ps) (r₁ r₂ : (res_t build-table-kinds.r κs).Denot)
    (x₁ x₂ : AtExit (ended_of 4 build-table-kinds.ps build-table-kinds.r) κs) → build-table-reads.Post κs a r₁ x₁ → build-table-reads.Post κs a r₂ x₂
    → (r₁ ≡ r₂) × (x₁.1.1.0.now ≡ x₂.1.1.0.now)
    × (take r₁.tables.pairs x₁.1.0.now ≡ take r₂.tables.pairs x₂.1.0.now)
build-table-one κs a r₁ r₂ x₁ x₂ p q = shows-one _ _ _ _ _ _ _ p q

-- the fifth parameter is lent
pub ask-one : (κs : Lfts 3) (a : Dens κs ask-kinds.ps) (r₁ r₂ : (res_t ask-kinds.r κs).Denot)
    (x₁ x₂ : AtExit (ended_of 3 ask-kinds.ps ask-kinds.r) κs) → ask-reads.Post κs a r₁ x₁ → ask-reads.Post κs a r₂ x₂
    → (r₁ ≡ r₂) × (x₁.1.1.1.1.0.now ≡ x₂.1.1.1.1.0.now)
ask-one κs a r₁ r₂ x₁ x₂ p q = (p.result ∙ sym q.result, p.memory ∙ sym q.memory)

-- the third
pub ancestors-of-one : (κs : Lfts 3) (a : Dens κs ancestors-of-kinds.ps) (r₁ r₂ : (res_t ancestors-of-kinds.r κs).Denot)
    (x₁ x₂ : AtExit (ended_of 3 ancestors-of-kinds.ps ancestors-of-kinds.r) κs) → ancestors-of-reads.Post κs a r₁ x₁ → ancestors-of-reads.Post κs a r₂ x₂
    → (r₁ ≡ r₂) × (x₁.1.1.0.now ≡ x₂.1.1.0.now)
ancestors-of-one κs a r₁ r₂ x₁ x₂ p q = (p.result ∙ sym q.result, p.memory ∙ sym q.memory)
