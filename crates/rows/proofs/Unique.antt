-- The contract of each public function, as the check reads it, allows one outcome.
use mathlib.Core.Path.{◌≡◌, sym, ◌∙◌}
use borrow.Fn.Kinds.{Dens, res_t, ended_of}
use denote.Triple.Clauses.{AtExit}
use contract.Lifetimes.{Lfts}
use Rattle.rows.proofs.add_name.Reads as add-name
use Rattle.rows.proofs.add_name.Kinds as add-name-kinds
use Rattle.rows.proofs.add_record.Reads as add-record
use Rattle.rows.proofs.add_record.Kinds as add-record-kinds
use Rattle.rows.proofs.is_flags.Reads as is-flags
use Rattle.rows.proofs.is_flags.Kinds as is-flags-kinds
use Rattle.rows.proofs.are_classes.Reads as are-classes
use Rattle.rows.proofs.are_classes.Kinds as are-classes-kinds
use Rattle.rows.proofs.put_marks.Reads as put-marks
use Rattle.rows.proofs.put_marks.Kinds as put-marks-kinds
use Rattle.rows.proofs.check_numbers.Reads as check-numbers
use Rattle.rows.proofs.check_numbers.Kinds as check-numbers-kinds
use Rattle.rows.proofs.fresh.Reads as fresh
use Rattle.rows.proofs.fresh.Kinds as fresh-kinds
use Rattle.rows.proofs.put_key.Reads as put-key
use Rattle.rows.proofs.put_key.Kinds as put-key-kinds
use Rattle.rows.proofs.put_pairs.Reads as put-pairs
use Rattle.rows.proofs.put_pairs.Kinds as put-pairs-kinds

pub add-name-one : (κs : Lfts 2) (a : Dens κs add-name-kinds.ps) (r₁ r₂ : (res_t add-name-kinds.r κs).Denot)
    (x₁ x₂ : AtExit (ended_of 2 add-name-kinds.ps add-name-kinds.r) κs) → add-name.Post κs a r₁ x₁ → add-name.Post κs a r₂ x₂ → r₁ ≡ r₂
add-name-one κs a r₁ r₂ x₁ x₂ p q = p ∙ sym q

-- the fourth and the fifth parameter are lent
pub add-record-one : (κs : Lfts 3) (a : Dens κs add-record-kinds.ps) (r₁ r₂ : (res_t add-record-kinds.r κs).Denot)
    (x₁ x₂ : AtExit (ended_of 3 add-record-kinds.ps add-record-kinds.r) κs) → add-record.Post κs a r₁ x₁ → add-record.Post κs a r₂ x₂
    → (r₁ ≡ r₂) × (x₁.1.1.1.0.now ≡ x₂.1.1.1.0.now) × (x₁.1.1.1.1.0.now ≡ x₂.1.1.1.1.0.now)
add-record-one κs a r₁ r₂ x₁ x₂ p q = (
  p.outcome-is ∙ sym q.outcome-is,
  p.pairs-are ∙ sym q.pairs-are,
  p.marks-are ∙ sym q.marks-are,
)

pub is-flags-one : (κs : Lfts 0) (a : Dens κs is-flags-kinds.ps) (r₁ r₂ : (res_t is-flags-kinds.r κs).Denot)
    (x₁ x₂ : AtExit (ended_of 0 is-flags-kinds.ps is-flags-kinds.r) κs) → is-flags.Post κs a r₁ x₁ → is-flags.Post κs a r₂ x₂ → r₁ ≡ r₂
is-flags-one κs a r₁ r₂ x₁ x₂ p q = p ∙ sym q

pub are-classes-one : (κs : Lfts 1) (a : Dens κs are-classes-kinds.ps) (r₁ r₂ : (res_t are-classes-kinds.r κs).Denot)
    (x₁ x₂ : AtExit (ended_of 1 are-classes-kinds.ps are-classes-kinds.r) κs) → are-classes.Post κs a r₁ x₁ → are-classes.Post κs a r₂ x₂ → r₁ ≡ r₂
are-classes-one κs a r₁ r₂ x₁ x₂ p q = p ∙ sym q

-- the first is lent
pub put-marks-one : (κs : Lfts 1) (a : Dens κs put-marks-kinds.ps) (r₁ r₂ : (res_t put-marks-kinds.r κs).Denot)
    (x₁ x₂ : AtExit (ended_of 1 put-marks-kinds.ps put-marks-kinds.r) κs) → put-marks.Post κs a r₁ x₁ → put-marks.Post κs a r₂ x₂ → x₁.0.now ≡ x₂.0.now
put-marks-one κs a r₁ r₂ x₁ x₂ p q = p ∙ sym q

pub fresh-one : (κs : Lfts 2) (a : Dens κs fresh-kinds.ps) (r₁ r₂ : (res_t fresh-kinds.r κs).Denot)
    (x₁ x₂ : AtExit (ended_of 2 fresh-kinds.ps fresh-kinds.r) κs) → fresh.Post κs a r₁ x₁ → fresh.Post κs a r₂ x₂ → r₁ ≡ r₂
fresh-one κs a r₁ r₂ x₁ x₂ p q = λ i. record { words = (p ∙ sym q) i }

-- the first is lent, as in the next
pub put-key-one : (κs : Lfts 1) (a : Dens κs put-key-kinds.ps) (r₁ r₂ : (res_t put-key-kinds.r κs).Denot)
    (x₁ x₂ : AtExit (ended_of 1 put-key-kinds.ps put-key-kinds.r) κs) → put-key.Post κs a r₁ x₁ → put-key.Post κs a r₂ x₂
    → (r₁ ≡ r₂) × (x₁.0.now ≡ x₂.0.now)
put-key-one κs a r₁ r₂ x₁ x₂ p q = (p.0 ∙ sym q.0, p.1 ∙ sym q.1)

pub put-pairs-one : (κs : Lfts 2) (a : Dens κs put-pairs-kinds.ps) (r₁ r₂ : (res_t put-pairs-kinds.r κs).Denot)
    (x₁ x₂ : AtExit (ended_of 2 put-pairs-kinds.ps put-pairs-kinds.r) κs) → put-pairs.Post κs a r₁ x₁ → put-pairs.Post κs a r₂ x₂
    → (r₁ ≡ r₂) × (x₁.0.now ≡ x₂.0.now)
put-pairs-one κs a r₁ r₂ x₁ x₂ p q = (p.0 ∙ sym q.0, p.1 ∙ sym q.1)

pub check-numbers-one : (κs : Lfts 1) (a : Dens κs check-numbers-kinds.ps) (r₁ r₂ : (res_t check-numbers-kinds.r κs).Denot)
    (x₁ x₂ : AtExit (ended_of 1 check-numbers-kinds.ps check-numbers-kinds.r) κs) → check-numbers.Post κs a r₁ x₁ → check-numbers.Post κs a r₂ x₂ → r₁ ≡ r₂
check-numbers-one κs a r₁ r₂ x₁ x₂ p q = p ∙ sym q
