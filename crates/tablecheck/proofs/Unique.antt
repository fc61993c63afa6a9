-- The contract of each function, as the check reads it, allows one result.
use mathlib.Core.Path.{◌≡◌, sym, ◌∙◌}
use borrow.Fn.Kinds.{Dens, res_t, ended_of}
use denote.Triple.Clauses.{AtExit}
use contract.Lifetimes.{Lfts}
use Rattle.tablecheck.proofs.check_records.Reads as check-records-reads
use Rattle.tablecheck.proofs.check_records.Kinds as check-records-kinds
use Rattle.tablecheck.proofs.check_table.Reads as check-table-reads
use Rattle.tablecheck.proofs.check_table.Kinds as check-table-kinds

pub check-records-one : (κs : Lfts 2) (a : Dens κs check-records-kinds.ps) (r₁ r₂ : (res_t check-records-kinds.r κs).Denot)
    (x₁ x₂ : AtExit (ended_of 2 check-records-kinds.ps check-records-kinds.r) κs) → check-records-reads.Post κs a r₁ x₁ → check-records-reads.Post κs a r₂ x₂ → r₁ ≡ r₂
check-records-one κs a r₁ r₂ x₁ x₂ p q = p ∙ sym q

pub check-table-one : (κs : Lfts 2) (a : Dens κs check-table-kinds.ps) (r₁ r₂ : (res_t check-table-kinds.r κs).Denot)
    (x₁ x₂ : AtExit (ended_of 2 check-table-kinds.ps check-table-kinds.r) κs) → check-table-reads.Post κs a r₁ x₁ → check-table-reads.Post κs a r₂ x₂ → r₁ ≡ r₂
check-table-one κs a r₁ r₂ x₁ x₂ p q = p ∙ sym q
