-- The contract of the public function, and of those that it is made of, as the check reads it, allows one outcome.
use mathlib.Core.Path.{◌≡◌, sym, ◌∙◌}
use borrow.Fn.Kinds.{Dens, res_t, ended_of}
use denote.Triple.Clauses.{AtExit}
use contract.Lifetimes.{Lfts}
use Rattle.columns.proofs.TableColumns.is_even.Reads as is-even
use Rattle.columns.proofs.TableColumns.is_even.Kinds as is-even-kinds
use Rattle.columns.proofs.lists_as_many.Reads as lists-as-many
use Rattle.columns.proofs.lists_as_many.Kinds as lists-as-many-kinds
use Rattle.columns.proofs.build_names.Reads as build-names
use Rattle.columns.proofs.build_names.Kinds as build-names-kinds
use Rattle.columns.proofs.build_records.Reads as build-records
use Rattle.columns.proofs.build_records.Kinds as build-records-kinds
use Rattle.columns.proofs.gather_row.Reads as gather-row
use Rattle.columns.proofs.gather_row.Kinds as gather-row-kinds
use Rattle.columns.proofs.gather_rows.Reads as gather-rows
use Rattle.columns.proofs.gather_rows.Kinds as gather-rows-kinds
use Rattle.columns.proofs.gather_records.Reads as gather-records
use Rattle.columns.proofs.gather_records.Kinds as gather-records-kinds
use Rattle.columns.proofs.add_records.Reads as add-records
use Rattle.columns.proofs.add_records.Kinds as add-records-kinds
use Rattle.columns.proofs.build.Reads as build
use Rattle.columns.proofs.build.Kinds as build-kinds

pub is-even-one : (κs : Lfts 2) (a : Dens κs is-even-kinds.ps) (r₁ r₂ : (res_t is-even-kinds.r κs).Denot)
    (x₁ x₂ : AtExit (ended_of 2 is-even-kinds.ps is-even-kinds.r) κs) → is-even.Post κs a r₁ x₁ → is-even.Post κs a r₂ x₂ → r₁ ≡ r₂
is-even-one κs a r₁ r₂ x₁ x₂ p q = p ∙ sym q

pub lists-as-many-one : (κs : Lfts 1) (a : Dens κs lists-as-many-kinds.ps) (r₁ r₂ : (res_t lists-as-many-kinds.r κs).Denot)
    (x₁ x₂ : AtExit (ended_of 1 lists-as-many-kinds.ps lists-as-many-kinds.r) κs) → lists-as-many.Post κs a r₁ x₁ → lists-as-many.Post κs a r₂ x₂ → r₁ ≡ r₂
lists-as-many-one κs a r₁ r₂ x₁ x₂ p q = p ∙ sym q

pub build-names-one : (κs : Lfts 2) (a : Dens κs build-names-kinds.ps) (r₁ r₂ : (res_t build-names-kinds.r κs).Denot)
    (x₁ x₂ : AtExit (ended_of 2 build-names-kinds.ps build-names-kinds.r) κs) → build-names.Post κs a r₁ x₁ → build-names.Post κs a r₂ x₂ → r₁ ≡ r₂
build-names-one κs a r₁ r₂ x₁ x₂ p q = p ∙ sym q

-- the third and the fourth parameter are lent
pub build-records-one : (κs : Lfts 4) (a : Dens κs build-records-kinds.ps) (r₁ r₂ : (res_t build-records-kinds.r κs).Denot)
    (x₁ x₂ : AtExit (ended_of 4 build-records-kinds.ps build-records-kinds.r) κs) → build-records.Post κs a r₁ x₁ → build-records.Post κs a r₂ x₂
    → (r₁ ≡ r₂) × (x₁.1.1.0.now ≡ x₂.1.1.0.now) × (x₁.1.1.1.0.now ≡ x₂.1.1.1.0.now)
build-records-one κs a r₁ r₂ x₁ x₂ p q = (
  p.outcome-is ∙ sym q.outcome-is,
  p.pairs-are ∙ sym q.pairs-are,
  p.marks-are ∙ sym q.marks-are,
)

-- the sixth and the seventh
pub gather-row-one : (κs : Lfts 3) (a : Dens κs gather-row-kinds.ps) (r₁ r₂ : (res_t gather-row-kinds.r κs).Denot)
    (x₁ x₂ : AtExit (ended_of 3 gather-row-kinds.ps gather-row-kinds.r) κs) → gather-row.Post κs a r₁ x₁ → gather-row.Post κs a r₂ x₂
    → (r₁ ≡ r₂) × (x₁.1.1.1.1.1.0.now ≡ x₂.1.1.1.1.1.0.now) × (x₁.1.1.1.1.1.1.0.now ≡ x₂.1.1.1.1.1.1.0.now)
gather-row-one κs a r₁ r₂ x₁ x₂ p q = (
  p.keys-are ∙ sym q.keys-are,
  p.bits-are ∙ sym q.bits-are,
  p.marks-are ∙ sym q.marks-are,
)

-- the second and the third
pub gather-rows-one : (κs : Lfts 4) (a : Dens κs gather-rows-kinds.ps) (r₁ r₂ : (res_t gather-rows-kinds.r κs).Denot)
    (x₁ x₂ : AtExit (ended_of 4 gather-rows-kinds.ps gather-rows-kinds.r) κs) → gather-rows.Post κs a r₁ x₁ → gather-rows.Post κs a r₂ x₂
    → (r₁ ≡ r₂) × (x₁.1.0.now ≡ x₂.1.0.now) × (x₁.1.1.0.now ≡ x₂.1.1.0.now)
gather-rows-one κs a r₁ r₂ x₁ x₂ p q = (
  p.rows-are ∙ sym q.rows-are,
  p.bits-are ∙ sym q.bits-are,
  p.marks-are ∙ sym q.marks-are,
)

-- the second, the third and the fourth
pub gather-records-one : (κs : Lfts 5) (a : Dens κs gather-records-kinds.ps) (r₁ r₂ : (res_t gather-records-kinds.r κs).Denot)
    (x₁ x₂ : AtExit (ended_of 5 gather-records-kinds.ps gather-records-kinds.r) κs) → gather-records.Post κs a r₁ x₁ → gather-records.Post κs a r₂ x₂
    → (r₁ ≡ r₂) × (x₁.1.0.now ≡ x₂.1.0.now) × (x₁.1.1.0.now ≡ x₂.1.1.0.now) × (x₁.1.1.1.0.now ≡ x₂.1.1.1.0.now)
gather-records-one κs a r₁ r₂ x₁ x₂ p q = (
  p.0.outcome-is ∙ sym q.0.outcome-is,
  p.1 ∙ sym q.1,
  p.0.pairs-are ∙ sym q.0.pairs-are,
  p.0.marks-are ∙ sym q.0.marks-are,
)

-- the second and the third
pub add-records-one : (κs : Lfts 4) (a : Dens κs add-records-kinds.ps) (r₁ r₂ : (res_t add-records-kinds.r κs).Denot)
    (x₁ x₂ : AtExit (ended_of 4 add-records-kinds.ps add-records-kinds.r) κs) → add-records.Post κs a r₁ x₁ → add-records.Post κs a r₂ x₂
    → (r₁ ≡ r₂) × (x₁.1.0.now ≡ x₂.1.0.now) × (x₁.1.1.0.now ≡ x₂.1.1.0.now)
add-records-one κs a r₁ r₂ x₁ x₂ p q = (
  p.outcome-is ∙ sym q.outcome-is,
  p.pairs-are ∙ sym q.pairs-are,
  p.marks-are ∙ sym q.marks-are,
)

-- the same
pub build-one : (κs : Lfts 4) (a : Dens κs build-kinds.ps) (r₁ r₂ : (res_t build-kinds.r κs).Denot)
    (x₁ x₂ : AtExit (ended_of 4 build-kinds.ps build-kinds.r) κs) → build.Post κs a r₁ x₁ → build.Post κs a r₂ x₂
    → (r₁ ≡ r₂) × (x₁.1.0.now ≡ x₂.1.0.now) × (x₁.1.1.0.now ≡ x₂.1.1.0.now)
build-one κs a r₁ r₂ x₁ x₂ p q = (
  p.outcome-is ∙ sym q.outcome-is,
  p.pairs-are ∙ sym q.pairs-are,
  p.marks-are ∙ sym q.marks-are,
)
