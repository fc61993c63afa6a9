-- The promise of each exported function, as the check reads it, allows one result and one content of lent memory.
use mathlib.Core.Path.{◌≡◌, sym, ◌∙◌}
use borrow.Fn.Kinds.{Dens, res_t, ended_of}
use denote.Triple.Clauses.{AtExit}
use contract.Lifetimes.{Lfts}
use Rattle.bracepuffin.proofs.bp_read_type.Reads as bp-read-type-reads
use Rattle.bracepuffin.proofs.bp_read_type.Kinds as bp-read-type-kinds
use Rattle.bracepuffin.proofs.bp_read_type_strict.Reads as bp-read-type-strict-reads
use Rattle.bracepuffin.proofs.bp_read_type_strict.Kinds as bp-read-type-strict-kinds
use Rattle.bracepuffin.proofs.bp_read_method.Reads as bp-read-method-reads
use Rattle.bracepuffin.proofs.bp_read_method.Kinds as bp-read-method-kinds
use Rattle.bracepuffin.proofs.bp_read_method_strict.Reads as bp-read-method-strict-reads
use Rattle.bracepuffin.proofs.bp_read_method_strict.Kinds as bp-read-method-strict-kinds
use Rattle.bracepuffin.proofs.bp_write_type.Reads as bp-write-type-reads
use Rattle.bracepuffin.proofs.bp_write_type.Kinds as bp-write-type-kinds
use Rattle.bracepuffin.proofs.bp_write_method.Reads as bp-write-method-reads
use Rattle.bracepuffin.proofs.bp_write_method.Kinds as bp-write-method-kinds
use Rattle.bracepuffin.proofs.bp_lookup.Reads as bp-lookup-reads
use Rattle.bracepuffin.proofs.bp_lookup.Kinds as bp-lookup-kinds
use Rattle.bracepuffin.proofs.bp_abi_1.Reads as bp-abi-1-reads
use Rattle.bracepuffin.proofs.bp_abi_1.Kinds as bp-abi-1-kinds
use Rattle.bracepuffin.proofs.bp_check_table.Reads as bp-check-table-reads
use Rattle.bracepuffin.proofs.bp_check_table.Kinds as bp-check-table-kinds
use Rattle.bracepuffin.proofs.bp_relation.Reads as bp-relation-reads
use Rattle.bracepuffin.proofs.bp_relation.Kinds as bp-relation-kinds
use Rattle.bracepuffin.proofs.bp_distance.Reads as bp-distance-reads
use Rattle.bracepuffin.proofs.bp_distance.Kinds as bp-distance-kinds
use Rattle.bracepuffin.proofs.bp_ancestors.Reads as bp-ancestors-reads
use Rattle.bracepuffin.proofs.bp_ancestors.Kinds as bp-ancestors-kinds
use Rattle.bracepuffin.proofs.bp_supertype.Reads as bp-supertype-reads
use Rattle.bracepuffin.proofs.bp_supertype.Kinds as bp-supertype-kinds
use Rattle.bracepuffin.proofs.bp_cast.Reads as bp-cast-reads
use Rattle.bracepuffin.proofs.bp_cast.Kinds as bp-cast-kinds
use Rattle.bracepuffin.proofs.bp_join.Reads as bp-join-reads
use Rattle.bracepuffin.proofs.bp_join.Kinds as bp-join-kinds
use Rattle.bracepuffin.proofs.bp_assignable.Reads as bp-assignable-reads
use Rattle.bracepuffin.proofs.bp_assignable.Kinds as bp-assignable-kinds
use Rattle.bracepuffin.proofs.bp_solve.Reads as bp-solve-reads
use Rattle.bracepuffin.proofs.bp_solve.Kinds as bp-solve-kinds

pub bp-read-type-one : (κs : Lfts 1) (a : Dens κs bp-read-type-kinds.ps) (r₁ r₂ : (res_t bp-read-type-kinds.r κs).Denot) (x₁ x₂ : AtExit (ended_of 1 bp-read-type-kinds.ps bp-read-type-kinds.r) κs)
    → bp-read-type-reads.Post κs a r₁ x₁ → bp-read-type-reads.Post κs a r₂ x₂ → r₁ ≡ r₂
bp-read-type-one κs a r₁ r₂ x₁ x₂ p q = p ∙ sym q

pub bp-read-type-strict-one : (κs : Lfts 1) (a : Dens κs bp-read-type-strict-kinds.ps) (r₁ r₂ : (res_t bp-read-type-strict-kinds.r κs).Denot) (x₁ x₂ : AtExit (ended_of 1 bp-read-type-strict-kinds.ps bp-read-type-strict-kinds.r) κs)
    → bp-read-type-strict-reads.Post κs a r₁ x₁ → bp-read-type-strict-reads.Post κs a r₂ x₂ → r₁ ≡ r₂
bp-read-type-strict-one κs a r₁ r₂ x₁ x₂ p q = p ∙ sym q

pub bp-read-method-one : (κs : Lfts 2) (a : Dens κs bp-read-method-kinds.ps) (r₁ r₂ : (res_t bp-read-method-kinds.r κs).Denot) (x₁ x₂ : AtExit (ended_of 2 bp-read-method-kinds.ps bp-read-method-kinds.r) κs)
    → bp-read-method-reads.Post κs a r₁ x₁ → bp-read-method-reads.Post κs a r₂ x₂ → (r₁ ≡ r₂) × (x₁.1.0.now ≡ x₂.1.0.now)
bp-read-method-one κs a r₁ r₂ x₁ x₂ p q = (p.0 ∙ sym q.0, p.1 ∙ sym q.1)

pub bp-read-method-strict-one : (κs : Lfts 2) (a : Dens κs bp-read-method-strict-kinds.ps) (r₁ r₂ : (res_t bp-read-method-strict-kinds.r κs).Denot) (x₁ x₂ : AtExit (ended_of 2 bp-read-method-strict-kinds.ps bp-read-method-strict-kinds.r) κs)
    → bp-read-method-strict-reads.Post κs a r₁ x₁ → bp-read-method-strict-reads.Post κs a r₂ x₂ → (r₁ ≡ r₂) × (x₁.1.0.now ≡ x₂.1.0.now)
bp-read-method-strict-one κs a r₁ r₂ x₁ x₂ p q = (p.0 ∙ sym q.0, p.1 ∙ sym q.1)

pub bp-write-type-one : (κs : Lfts 4) (a : Dens κs bp-write-type-kinds.ps) (r₁ r₂ : (res_t bp-write-type-kinds.r κs).Denot) (x₁ x₂ : AtExit (ended_of 4 bp-write-type-kinds.ps bp-write-type-kinds.r) κs)
    → bp-write-type-reads.Post κs a r₁ x₁ → bp-write-type-reads.Post κs a r₂ x₂ → (r₁ ≡ r₂) × (x₁.1.1.1.1.0.now ≡ x₂.1.1.1.1.0.now)
bp-write-type-one κs a r₁ r₂ x₁ x₂ p q = (p.result ∙ sym q.result, p.memory ∙ sym q.memory)

pub bp-write-method-one : (κs : Lfts 5) (a : Dens κs bp-write-method-kinds.ps) (r₁ r₂ : (res_t bp-write-method-kinds.r κs).Denot) (x₁ x₂ : AtExit (ended_of 5 bp-write-method-kinds.ps bp-write-method-kinds.r) κs)
    → bp-write-method-reads.Post κs a r₁ x₁ → bp-write-method-reads.Post κs a r₂ x₂ → (r₁ ≡ r₂) × (x₁.1.1.1.1.1.0.now ≡ x₂.1.1.1.1.1.0.now)
bp-write-method-one κs a r₁ r₂ x₁ x₂ p q = (p.result ∙ sym q.result, p.memory ∙ sym q.memory)

pub bp-lookup-one : (κs : Lfts 4) (a : Dens κs bp-lookup-kinds.ps) (r₁ r₂ : (res_t bp-lookup-kinds.r κs).Denot) (x₁ x₂ : AtExit (ended_of 4 bp-lookup-kinds.ps bp-lookup-kinds.r) κs)
    → bp-lookup-reads.Post κs a r₁ x₁ → bp-lookup-reads.Post κs a r₂ x₂ → r₁ ≡ r₂
bp-lookup-one κs a r₁ r₂ x₁ x₂ p q = p ∙ sym q

pub bp-abi-1-one : (κs : Lfts 0) (a : Dens κs bp-abi-1-kinds.ps) (r₁ r₂ : (res_t bp-abi-1-kinds.r κs).Denot) (x₁ x₂ : AtExit (ended_of 0 bp-abi-1-kinds.ps bp-abi-1-kinds.r) κs)
    → bp-abi-1-reads.Post κs a r₁ x₁ → bp-abi-1-reads.Post κs a r₂ x₂ → r₁ ≡ r₂
bp-abi-1-one κs a r₁ r₂ x₁ x₂ p q = p ∙ sym q

pub bp-check-table-one : (κs : Lfts 8) (a : Dens κs bp-check-table-kinds.ps) (r₁ r₂ : (res_t bp-check-table-kinds.r κs).Denot) (x₁ x₂ : AtExit (ended_of 8 bp-check-table-kinds.ps bp-check-table-kinds.r) κs)
    → bp-check-table-reads.Post κs a r₁ x₁ → bp-check-table-reads.Post κs a r₂ x₂ → r₁ ≡ r₂
bp-check-table-one κs a r₁ r₂ x₁ x₂ p q = p ∙ sym q

pub bp-relation-one : (κs : Lfts 9) (a : Dens κs bp-relation-kinds.ps) (r₁ r₂ : (res_t bp-relation-kinds.r κs).Denot) (x₁ x₂ : AtExit (ended_of 9 bp-relation-kinds.ps bp-relation-kinds.r) κs)
    → bp-relation-reads.Post κs a r₁ x₁ → bp-relation-reads.Post κs a r₂ x₂ → (r₁ ≡ r₂) × (x₁.1.1.1.1.1.1.1.1.1.1.0.now ≡ x₂.1.1.1.1.1.1.1.1.1.1.0.now)
bp-relation-one κs a r₁ r₂ x₁ x₂ p q = (p.0 ∙ sym q.0, p.1 ∙ sym q.1)

pub bp-distance-one : (κs : Lfts 9) (a : Dens κs bp-distance-kinds.ps) (r₁ r₂ : (res_t bp-distance-kinds.r κs).Denot) (x₁ x₂ : AtExit (ended_of 9 bp-distance-kinds.ps bp-distance-kinds.r) κs)
    → bp-distance-reads.Post κs a r₁ x₁ → bp-distance-reads.Post κs a r₂ x₂ → (r₁ ≡ r₂) × (x₁.1.1.1.1.1.1.1.1.1.1.0.now ≡ x₂.1.1.1.1.1.1.1.1.1.1.0.now)
bp-distance-one κs a r₁ r₂ x₁ x₂ p q = (p.0 ∙ sym q.0, p.1 ∙ sym q.1)

pub bp-ancestors-one : (κs : Lfts 9) (a : Dens κs bp-ancestors-kinds.ps) (r₁ r₂ : (res_t bp-ancestors-kinds.r κs).Denot) (x₁ x₂ : AtExit (ended_of 9 bp-ancestors-kinds.ps bp-ancestors-kinds.r) κs)
    → bp-ancestors-reads.Post κs a r₁ x₁ → bp-ancestors-reads.Post κs a r₂ x₂ → (r₁ ≡ r₂) × (x₁.1.1.1.1.1.1.1.1.1.0.now ≡ x₂.1.1.1.1.1.1.1.1.1.0.now)
bp-ancestors-one κs a r₁ r₂ x₁ x₂ p q = (p.0 ∙ sym q.0, p.1 ∙ sym q.1)

pub bp-supertype-one : (κs : Lfts 9) (a : Dens κs bp-supertype-kinds.ps) (r₁ r₂ : (res_t bp-supertype-kinds.r κs).Denot) (x₁ x₂ : AtExit (ended_of 9 bp-supertype-kinds.ps bp-supertype-kinds.r) κs)
    → bp-supertype-reads.Post κs a r₁ x₁ → bp-supertype-reads.Post κs a r₂ x₂ → (r₁ ≡ r₂) × (x₁.1.1.1.1.1.1.1.1.1.1.0.now ≡ x₂.1.1.1.1.1.1.1.1.1.1.0.now)
bp-supertype-one κs a r₁ r₂ x₁ x₂ p q = (p.0 ∙ sym q.0, p.1 ∙ sym q.1)

pub bp-cast-one : (κs : Lfts 9) (a : Dens κs bp-cast-kinds.ps) (r₁ r₂ : (res_t bp-cast-kinds.r κs).Denot) (x₁ x₂ : AtExit (ended_of 9 bp-cast-kinds.ps bp-cast-kinds.r) κs)
    → bp-cast-reads.Post κs a r₁ x₁ → bp-cast-reads.Post κs a r₂ x₂ → (r₁ ≡ r₂) × (x₁.1.1.1.1.1.1.1.1.1.1.0.now ≡ x₂.1.1.1.1.1.1.1.1.1.1.0.now)
bp-cast-one κs a r₁ r₂ x₁ x₂ p q = (p.0 ∙ sym q.0, p.1 ∙ sym q.1)

pub bp-join-one : (κs : Lfts 9) (a : Dens κs bp-join-kinds.ps) (r₁ r₂ : (res_t bp-join-kinds.r κs).Denot) (x₁ x₂ : AtExit (ended_of 9 bp-join-kinds.ps bp-join-kinds.r) κs)
    → bp-join-reads.Post κs a r₁ x₁ → bp-join-reads.Post κs a r₂ x₂ → (r₁ ≡ r₂) × (x₁.1.1.1.1.1.1.1.1.1.1.0.now ≡ x₂.1.1.1.1.1.1.1.1.1.1.0.now)
bp-join-one κs a r₁ r₂ x₁ x₂ p q = (p.0 ∙ sym q.0, p.1 ∙ sym q.1)

pub bp-assignable-one : (κs : Lfts 9) (a : Dens κs bp-assignable-kinds.ps) (r₁ r₂ : (res_t bp-assignable-kinds.r κs).Denot) (x₁ x₂ : AtExit (ended_of 9 bp-assignable-kinds.ps bp-assignable-kinds.r) κs)
    → bp-assignable-reads.Post κs a r₁ x₁ → bp-assignable-reads.Post κs a r₂ x₂ → (r₁ ≡ r₂) × (x₁.1.1.1.1.1.1.1.1.1.1.0.now ≡ x₂.1.1.1.1.1.1.1.1.1.1.0.now)
bp-assignable-one κs a r₁ r₂ x₁ x₂ p q = (p.0 ∙ sym q.0, p.1 ∙ sym q.1)

-- the last five parameters of twenty-six are lent
pub bp-solve-one : (κs : Lfts 25) (a : Dens κs bp-solve-kinds.ps) (r₁ r₂ : (res_t bp-solve-kinds.r κs).Denot) (x₁ x₂ : AtExit (ended_of 25 bp-solve-kinds.ps bp-solve-kinds.r) κs)
    → bp-solve-reads.Post κs a r₁ x₁ → bp-solve-reads.Post κs a r₂ x₂
    → (r₁ ≡ r₂)
    × (x₁.1.1.1.1.1.1.1.1.1.1.1.1.1.1.1.1.1.1.1.1.1.0.now ≡ x₂.1.1.1.1.1.1.1.1.1.1.1.1.1.1.1.1.1.1.1.1.1.0.now)
    × (x₁.1.1.1.1.1.1.1.1.1.1.1.1.1.1.1.1.1.1.1.1.1.1.0.now ≡ x₂.1.1.1.1.1.1.1.1.1.1.1.1.1.1.1.1.1.1.1.1.1.1.0.now)
    × (x₁.1.1.1.1.1.1.1.1.1.1.1.1.1.1.1.1.1.1.1.1.1.1.1.0.now ≡ x₂.1.1.1.1.1.1.1.1.1.1.1.1.1.1.1.1.1.1.1.1.1.1.1.0.now)
    × (x₁.1.1.1.1.1.1.1.1.1.1.1.1.1.1.1.1.1.1.1.1.1.1.1.1.0.now ≡ x₂.1.1.1.1.1.1.1.1.1.1.1.1.1.1.1.1.1.1.1.1.1.1.1.1.0.now)
    × (x₁.1.1.1.1.1.1.1.1.1.1.1.1.1.1.1.1.1.1.1.1.1.1.1.1.1.0.now ≡ x₂.1.1.1.1.1.1.1.1.1.1.1.1.1.1.1.1.1.1.1.1.1.1.1.1.1.0.now)
bp-solve-one κs a r₁ r₂ x₁ x₂ p q =
    let m = p.1 in
    let n = q.1 in
    (p.0 ∙ sym q.0, m.answers ∙ sym n.answers, m.components ∙ sym n.components, m.kinds ∙ sym n.kinds, m.types ∙ sym n.types, m.work ∙ sym n.work)
