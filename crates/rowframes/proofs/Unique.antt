-- The contract of each public function, as the check reads it, allows one outcome.
use mathlib.Core.Path.{◌≡◌, sym, ◌∙◌}
use borrow.Fn.Kinds.{Dens, res_t, ended_of}
use denote.Triple.Clauses.{AtExit}
use contract.Lifetimes.{Lfts}
use Rattle.rowframes.proofs.name_frame.Reads as name-frame
use Rattle.rowframes.proofs.name_frame.Kinds as name-frame-kinds
use Rattle.rowframes.proofs.record_frame.Reads as record-frame
use Rattle.rowframes.proofs.record_frame.Kinds as record-frame-kinds
use Rattle.rowframes.proofs.open_frame.Reads as open-frame
use Rattle.rowframes.proofs.open_frame.Kinds as open-frame-kinds
use Rattle.rowframes.proofs.count_frame.Reads as count-frame
use Rattle.rowframes.proofs.count_frame.Kinds as count-frame-kinds
use Rattle.rowframes.proofs.variable_frame.Reads as variable-frame
use Rattle.rowframes.proofs.variable_frame.Kinds as variable-frame-kinds
use Rattle.rowframes.proofs.bound_frame.Reads as bound-frame
use Rattle.rowframes.proofs.bound_frame.Kinds as bound-frame-kinds
use Rattle.rowframes.proofs.flow_frame.Reads as flow-frame
use Rattle.rowframes.proofs.flow_frame.Kinds as flow-frame-kinds
use Rattle.rowframes.proofs.upper_frame.Reads as upper-frame
use Rattle.rowframes.proofs.upper_frame.Kinds as upper-frame-kinds
use Rattle.rowframes.proofs.read_frame.Reads as read-frame
use Rattle.rowframes.proofs.read_frame.Kinds as read-frame-kinds
use Rattle.rowframes.proofs.write_frame.Reads as write-frame
use Rattle.rowframes.proofs.write_frame.Kinds as write-frame-kinds

pub name-frame-one : (κs : Lfts 2) (a : Dens κs name-frame-kinds.ps) (r₁ r₂ : (res_t name-frame-kinds.r κs).Denot)
    (x₁ x₂ : AtExit (ended_of 2 name-frame-kinds.ps name-frame-kinds.r) κs) → name-frame.Post κs a r₁ x₁ → name-frame.Post κs a r₂ x₂ → (r₁ ≡ r₂) × (x₁.1.0.now ≡ x₂.1.0.now)
name-frame-one κs a r₁ r₂ x₁ x₂ p q = (p.result ∙ sym q.result, p.last-is ∙ sym q.last-is)

pub record-frame-one : (κs : Lfts 3) (a : Dens κs record-frame-kinds.ps) (r₁ r₂ : (res_t record-frame-kinds.r κs).Denot)
    (x₁ x₂ : AtExit (ended_of 3 record-frame-kinds.ps record-frame-kinds.r) κs) → record-frame.Post κs a r₁ x₁ → record-frame.Post κs a r₂ x₂ → (r₁ ≡ r₂) × (x₁.1.0.now ≡ x₂.1.0.now) × (x₁.1.1.0.now ≡ x₂.1.1.0.now)
record-frame-one κs a r₁ r₂ x₁ x₂ p q = (p.result ∙ sym q.result, p.pairs-are ∙ sym q.pairs-are, p.marks-are ∙ sym q.marks-are)

pub open-frame-one : (κs : Lfts 0) (a : Dens κs open-frame-kinds.ps) (r₁ r₂ : (res_t open-frame-kinds.r κs).Denot)
    (x₁ x₂ : AtExit (ended_of 0 open-frame-kinds.ps open-frame-kinds.r) κs) → open-frame.Post κs a r₁ x₁ → open-frame.Post κs a r₂ x₂ → r₁ ≡ r₂
open-frame-one κs a r₁ r₂ x₁ x₂ p q = p ∙ sym q

pub count-frame-one : (κs : Lfts 1) (a : Dens κs count-frame-kinds.ps) (r₁ r₂ : (res_t count-frame-kinds.r κs).Denot)
    (x₁ x₂ : AtExit (ended_of 1 count-frame-kinds.ps count-frame-kinds.r) κs) → count-frame.Post κs a r₁ x₁ → count-frame.Post κs a r₂ x₂ → r₁ ≡ r₂
count-frame-one κs a r₁ r₂ x₁ x₂ p q = p ∙ sym q

pub variable-frame-one : (κs : Lfts 2) (a : Dens κs variable-frame-kinds.ps) (r₁ r₂ : (res_t variable-frame-kinds.r κs).Denot)
    (x₁ x₂ : AtExit (ended_of 2 variable-frame-kinds.ps variable-frame-kinds.r) κs) → variable-frame.Post κs a r₁ x₁ → variable-frame.Post κs a r₂ x₂ → (r₁ ≡ r₂) × (x₁.1.0.now ≡ x₂.1.0.now)
variable-frame-one κs a r₁ r₂ x₁ x₂ p q = (p.result ∙ sym q.result, p.entries-are ∙ sym q.entries-are)

pub bound-frame-one : (κs : Lfts 2) (a : Dens κs bound-frame-kinds.ps) (r₁ r₂ : (res_t bound-frame-kinds.r κs).Denot)
    (x₁ x₂ : AtExit (ended_of 2 bound-frame-kinds.ps bound-frame-kinds.r) κs) → bound-frame.Post κs a r₁ x₁ → bound-frame.Post κs a r₂ x₂ → (r₁ ≡ r₂) × (x₁.1.0.now ≡ x₂.1.0.now)
bound-frame-one κs a r₁ r₂ x₁ x₂ p q = (p.result ∙ sym q.result, p.entries-are ∙ sym q.entries-are)

pub flow-frame-one : (κs : Lfts 2) (a : Dens κs flow-frame-kinds.ps) (r₁ r₂ : (res_t flow-frame-kinds.r κs).Denot)
    (x₁ x₂ : AtExit (ended_of 2 flow-frame-kinds.ps flow-frame-kinds.r) κs) → flow-frame.Post κs a r₁ x₁ → flow-frame.Post κs a r₂ x₂ → (r₁ ≡ r₂) × (x₁.1.0.now ≡ x₂.1.0.now)
flow-frame-one κs a r₁ r₂ x₁ x₂ p q = (p.result ∙ sym q.result, p.entries-are ∙ sym q.entries-are)

pub upper-frame-one : (κs : Lfts 2) (a : Dens κs upper-frame-kinds.ps) (r₁ r₂ : (res_t upper-frame-kinds.r κs).Denot)
    (x₁ x₂ : AtExit (ended_of 2 upper-frame-kinds.ps upper-frame-kinds.r) κs) → upper-frame.Post κs a r₁ x₁ → upper-frame.Post κs a r₂ x₂ → (r₁ ≡ r₂) × (x₁.1.0.now ≡ x₂.1.0.now)
upper-frame-one κs a r₁ r₂ x₁ x₂ p q = (p.result ∙ sym q.result, p.entries-are ∙ sym q.entries-are)

pub read-frame-one : (κs : Lfts 2) (a : Dens κs read-frame-kinds.ps) (r₁ r₂ : (res_t read-frame-kinds.r κs).Denot)
    (x₁ x₂ : AtExit (ended_of 2 read-frame-kinds.ps read-frame-kinds.r) κs) → read-frame.Post κs a r₁ x₁ → read-frame.Post κs a r₂ x₂ → (r₁ ≡ r₂) × (x₁.1.0.now ≡ x₂.1.0.now)
read-frame-one κs a r₁ r₂ x₁ x₂ p q = (p.result ∙ sym q.result, p.entries-are ∙ sym q.entries-are)

pub write-frame-one : (κs : Lfts 2) (a : Dens κs write-frame-kinds.ps) (r₁ r₂ : (res_t write-frame-kinds.r κs).Denot)
    (x₁ x₂ : AtExit (ended_of 2 write-frame-kinds.ps write-frame-kinds.r) κs) → write-frame.Post κs a r₁ x₁ → write-frame.Post κs a r₂ x₂ → (r₁ ≡ r₂) × (x₁.1.0.now ≡ x₂.1.0.now)
write-frame-one κs a r₁ r₂ x₁ x₂ p q = (p.result ∙ sym q.result, p.entries-are ∙ sym q.entries-are)
