-- The contract of each public function, as the check reads it, allows one outcome: of the pairs as far as there are keys. What stands past them
-- is not told, since keys come and go.
use mathlib.Core.Path.{◌≡◌, sym, ◌∙◌}
use borrow.Fn.Kinds.{Dens, res_t, ended_of}
use denote.Triple.Clauses.{AtExit}
use contract.Lifetimes.{Lfts}
use lib.ListN.{take}
use Rattle.layercolumns.specs.Laws.{keeps-one, shows-one}
use Rattle.layercolumns.proofs.stack_row.Reads as row_reads
use Rattle.layercolumns.proofs.stack_row.Kinds as row-kinds
use Rattle.layercolumns.proofs.first_open.Reads as open-reads
use Rattle.layercolumns.proofs.first_open.Kinds as open-kinds
use Rattle.layercolumns.proofs.lowest.Reads as lowest-reads
use Rattle.layercolumns.proofs.lowest.Kinds as lowest-kinds
use Rattle.layercolumns.proofs.build_shown.Reads as shown-reads
use Rattle.layercolumns.proofs.build_shown.Kinds as shown-kinds
use Rattle.layercolumns.proofs.build_stack.Reads as build-reads
use Rattle.layercolumns.proofs.build_stack.Kinds as build-kinds

-- the sixth and the seventh parameter are lent
pub stack-row-one : (κs : Lfts 3) (a : Dens κs row-kinds.ps) (r₁ r₂ : (res_t row-kinds.r κs).Denot) (x₁ x₂ : AtExit (ended_of 3 row-kinds.ps row-kinds.r) κs)
    → row_reads.Post κs a r₁ x₁ → row_reads.Post κs a r₂ x₂
    → (r₁ ≡ r₂) × (x₁.1.1.1.1.1.1.0.now ≡ x₂.1.1.1.1.1.1.0.now)
    × (take r₁.stack.tables.pairs x₁.1.1.1.1.1.0.now ≡ take r₂.stack.tables.pairs x₂.1.1.1.1.1.0.now)
stack-row-one κs a r₁ r₂ x₁ x₂ p q = keeps-one _ _ _ _ _ _ _ p q

pub first-open-one : (κs : Lfts 1) (a : Dens κs open-kinds.ps) (r₁ r₂ : (res_t open-kinds.r κs).Denot) (x₁ x₂ : AtExit (ended_of 1 open-kinds.ps open-kinds.r) κs)
    → open-reads.Post κs a r₁ x₁ → open-reads.Post κs a r₂ x₂ → r₁ ≡ r₂
first-open-one κs a r₁ r₂ x₁ x₂ p q = p ∙ sym q

-- the last two of three
pub build-stack-one : (κs : Lfts 4) (a : Dens κs build-kinds.ps) (r₁ r₂ : (res_t build-kinds.r κs).Denot) (x₁ x₂ : AtExit (ended_of 4 build-kinds.ps build-kinds.r) κs)
    → build-reads.Post κs a r₁ x₁ → build-reads.Post κs a r₂ x₂
    → (r₁ ≡ r₂) × (x₁.1.1.0.now ≡ x₂.1.1.0.now)
    × (take r₁.stack.tables.pairs x₁.1.0.now ≡ take r₂.stack.tables.pairs x₂.1.0.now)
build-stack-one κs a r₁ r₂ x₁ x₂ p q = keeps-one _ _ _ _ _ _ _ p q

pub build-shown-one : (κs : Lfts 4) (a : Dens κs shown-kinds.ps) (r₁ r₂ : (res_t shown-kinds.r κs).Denot) (x₁ x₂ : AtExit (ended_of 4 shown-kinds.ps shown-kinds.r) κs)
    → shown-reads.Post κs a r₁ x₁ → shown-reads.Post κs a r₂ x₂
    → (r₁ ≡ r₂) × (x₁.1.1.0.now ≡ x₂.1.1.0.now)
    × (take r₁.tables.pairs x₁.1.0.now ≡ take r₂.tables.pairs x₂.1.0.now)
build-shown-one κs a r₁ r₂ x₁ x₂ p q = shows-one _ _ _ _ _ _ _ p q

pub lowest-one : (κs : Lfts 0) (a : Dens κs lowest-kinds.ps) (r₁ r₂ : (res_t lowest-kinds.r κs).Denot) (x₁ x₂ : AtExit (ended_of 0 lowest-kinds.ps lowest-kinds.r) κs)
    → lowest-reads.Post κs a r₁ x₁ → lowest-reads.Post κs a r₂ x₂ → r₁ ≡ r₂
lowest-one κs a r₁ r₂ x₁ x₂ p q = p ∙ sym q
