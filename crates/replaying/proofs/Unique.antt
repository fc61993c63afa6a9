-- The contract of each public function but `cases::read`, as the check reads it, allows one result and one content of lent memory.
use Rattle.std.proofs.Common.{◌≡◌, ℕ, ◌<◌, Bool, true, false, ◌↔◌, List, sym, refl, ap, ◌∙◌, true≢false, arith}
use native.Mathlib.Decide.{ℕ_discrete}
use borrow.Fn.Kinds.{Dens, res_t, ended_of}
use denote.Triple.Clauses.{AtExit}
use contract.Lifetimes.{Lfts}
use Rattle.replaying.specs.Replaying.{Part, Judges}
use Rattle.replaying.specs.declared.answers.Verdict.{Verdict}
use Rattle.replaying.specs.declared.answers.Verdict.TheVariants.{Agrees, Differs, Unread}
use Rattle.replaying.proofs.answers.flag.Reads as flag-reads
use Rattle.replaying.proofs.answers.flag.Kinds as flag-kinds
use Rattle.replaying.proofs.answers.judged.Reads as judged-reads
use Rattle.replaying.proofs.answers.judged.Kinds as judged-kinds
use Rattle.replaying.proofs.answers.is_same.Reads as answers-same-reads
use Rattle.replaying.proofs.answers.is_same.Kinds as answers-same-kinds
use Rattle.replaying.proofs.answers.all.Reads as all-reads
use Rattle.replaying.proofs.answers.all.Kinds as all_kinds
use Rattle.replaying.proofs.answers.one.Reads as one-reads
use Rattle.replaying.proofs.answers.one.Kinds as one-kinds
use Rattle.replaying.proofs.lists.end.Reads as end-reads
use Rattle.replaying.proofs.lists.end.Kinds as end-kinds
use Rattle.replaying.proofs.lists.end_before.Reads as end-before-reads
use Rattle.replaying.proofs.lists.end_before.Kinds as end-before-kinds
use Rattle.replaying.proofs.lists.after.Reads as after-reads
use Rattle.replaying.proofs.lists.after.Kinds as after-kinds
use Rattle.replaying.proofs.parts.number_at.Reads as number-at-reads
use Rattle.replaying.proofs.parts.number_at.Kinds as number-at-kinds
use Rattle.replaying.proofs.parts.numbers.Reads as numbers-reads
use Rattle.replaying.proofs.parts.numbers.Kinds as numbers-kinds
use Rattle.replaying.proofs.parts.bytes.Reads as bytes-reads
use Rattle.replaying.proofs.parts.bytes.Kinds as bytes-kinds
use Rattle.replaying.proofs.parts.place.Reads as place-reads
use Rattle.replaying.proofs.parts.place.Kinds as place-kinds
use Rattle.replaying.proofs.parts.list.Reads as list-reads
use Rattle.replaying.proofs.parts.list.Kinds as list-kinds
use Rattle.replaying.proofs.parts.is_last.Reads as is-last-reads
use Rattle.replaying.proofs.parts.is_last.Kinds as is-last-kinds
use Rattle.replaying.proofs.text.part_end.Reads as part-end-reads
use Rattle.replaying.proofs.text.part_end.Kinds as part-end-kinds
use Rattle.replaying.proofs.text.is_same.Reads as text-same-reads
use Rattle.replaying.proofs.text.is_same.Kinds as text-same-kinds
use Rattle.replaying.proofs.cases.room.Reads as room-reads
use Rattle.replaying.proofs.cases.room.Kinds as room-kinds
use Rattle.replaying.proofs.report.record.Reads as record-reads
use Rattle.replaying.proofs.report.record.Kinds as record-kinds
use Rattle.replaying.proofs.report.note_full.Reads as note-full-reads
use Rattle.replaying.proofs.report.note_full.Kinds as note-full-kinds
use Rattle.replaying.proofs.report.put.Reads as report-put-reads
use Rattle.replaying.proofs.report.put.Kinds as report-put-kinds

-- ---- what says whether P holds says one thing

bool-one : {P : Type 0} (r s : Bool) → (r ≡ true) ↔ P → (s ≡ true) ↔ P → r ≡ s
bool-one true s p q = sym (q.1 (p.0 refl))
bool-one false true p q = p.1 (q.0 refl)
bool-one false false p q = refl

is_unread : Verdict → Bool
is_unread Agrees = false
is_unread Differs = false
is_unread Unread = true

judges-one : {P : Type 0} (r s : Verdict) → Judges P r → Judges P s → r ≡ s
unfolding is_unread
judges-one Agrees s p q = sym (q.0.1 (p.0.0 refl))
judges-one Differs s p q = sym (q.1.1 (p.1.0 refl))
judges-one Unread s p q = absurd (true≢false (ap is_unread (p.1.1 (λ h. true≢false (ap is_unread (p.0.1 h))))))

-- ---- a part has one end

part-le : (text : List ℕ) (from b r s : ℕ) → Part text from b r → Part text from b s → s < r → ⊥
part-le text from b r s p q l =
    let i = p.inside in
    let j = q.after in
    p.before s j l (q.ends (omega arith))

part-one : (text : List ℕ) (from b r s : ℕ) → Part text from b r → Part text from b s → r ≡ s
part-one text from b r s p q = go (ℕ_discrete r s) (part-le text from b r s p q) (part-le text from b s r q p)
  where
    go : Dec (r ≡ s) → (s < r → ⊥) → (r < s → ⊥) → r ≡ s
    go (yes e) f g = e
    go (no n) f g = absurd (f (more n g))
      where
        more : (r ≡ s → ⊥) → (r < s → ⊥) → s < r
        more n g = omega (arith, n, g)

-- ---- each function

pub flag-one : (κs : Lfts 0) (a : Dens κs flag-kinds.ps) (r₁ r₂ : (res_t flag-kinds.r κs).Denot)
    (x₁ x₂ : AtExit (ended_of 0 flag-kinds.ps flag-kinds.r) κs) → flag-reads.Post κs a r₁ x₁ → flag-reads.Post κs a r₂ x₂ → r₁ ≡ r₂
flag-one κs a r₁ r₂ x₁ x₂ p q = p ∙ sym q

pub judged-one : (κs : Lfts 0) (a : Dens κs judged-kinds.ps) (r₁ r₂ : (res_t judged-kinds.r κs).Denot)
    (x₁ x₂ : AtExit (ended_of 0 judged-kinds.ps judged-kinds.r) κs) → judged-reads.Post κs a r₁ x₁ → judged-reads.Post κs a r₂ x₂ → r₁ ≡ r₂
judged-one κs a r₁ r₂ x₁ x₂ p q = p ∙ sym q

pub answers-same-one : (κs : Lfts 2) (a : Dens κs answers-same-kinds.ps) (r₁ r₂ : (res_t answers-same-kinds.r κs).Denot)
    (x₁ x₂ : AtExit (ended_of 2 answers-same-kinds.ps answers-same-kinds.r) κs) → answers-same-reads.Post κs a r₁ x₁ → answers-same-reads.Post κs a r₂ x₂ → r₁ ≡ r₂
answers-same-one κs a r₁ r₂ x₁ x₂ p q = bool-one r₁ r₂ p q

pub all-one : (κs : Lfts 2) (a : Dens κs all_kinds.ps) (r₁ r₂ : (res_t all_kinds.r κs).Denot)
    (x₁ x₂ : AtExit (ended_of 2 all_kinds.ps all_kinds.r) κs) → all-reads.Post κs a r₁ x₁ → all-reads.Post κs a r₂ x₂ → r₁ ≡ r₂
all-one κs a r₁ r₂ x₁ x₂ p q = judges-one r₁ r₂ p q

pub one-one : (κs : Lfts 1) (a : Dens κs one-kinds.ps) (r₁ r₂ : (res_t one-kinds.r κs).Denot)
    (x₁ x₂ : AtExit (ended_of 1 one-kinds.ps one-kinds.r) κs) → one-reads.Post κs a r₁ x₁ → one-reads.Post κs a r₂ x₂ → r₁ ≡ r₂
one-one κs a r₁ r₂ x₁ x₂ p q = judges-one r₁ r₂ p q

pub end-one : (κs : Lfts 1) (a : Dens κs end-kinds.ps) (r₁ r₂ : (res_t end-kinds.r κs).Denot)
    (x₁ x₂ : AtExit (ended_of 1 end-kinds.ps end-kinds.r) κs) → end-reads.Post κs a r₁ x₁ → end-reads.Post κs a r₂ x₂ → r₁ ≡ r₂
end-one κs a r₁ r₂ x₁ x₂ p q = p.is ∙ sym q.is

pub end-before-one : (κs : Lfts 1) (a : Dens κs end-before-kinds.ps) (r₁ r₂ : (res_t end-before-kinds.r κs).Denot)
    (x₁ x₂ : AtExit (ended_of 1 end-before-kinds.ps end-before-kinds.r) κs) → end-before-reads.Post κs a r₁ x₁ → end-before-reads.Post κs a r₂ x₂ → r₁ ≡ r₂
end-before-one κs a r₁ r₂ x₁ x₂ p q = p.is ∙ sym q.is

pub after-one : (κs : Lfts 1) (a : Dens κs after-kinds.ps) (r₁ r₂ : (res_t after-kinds.r κs).Denot)
    (x₁ x₂ : AtExit (ended_of 1 after-kinds.ps after-kinds.r) κs) → after-reads.Post κs a r₁ x₁ → after-reads.Post κs a r₂ x₂ → r₁ ≡ r₂
after-one κs a r₁ r₂ x₁ x₂ p q = p.is ∙ sym q.is

pub part-end-one : (κs : Lfts 1) (a : Dens κs part-end-kinds.ps) (r₁ r₂ : (res_t part-end-kinds.r κs).Denot)
    (x₁ x₂ : AtExit (ended_of 1 part-end-kinds.ps part-end-kinds.r) κs) → part-end-reads.Post κs a r₁ x₁ → part-end-reads.Post κs a r₂ x₂ → r₁ ≡ r₂
part-end-one κs a r₁ r₂ x₁ x₂ p q = part-one _ _ _ r₁ r₂ p q

pub text-same-one : (κs : Lfts 2) (a : Dens κs text-same-kinds.ps) (r₁ r₂ : (res_t text-same-kinds.r κs).Denot)
    (x₁ x₂ : AtExit (ended_of 2 text-same-kinds.ps text-same-kinds.r) κs) → text-same-reads.Post κs a r₁ x₁ → text-same-reads.Post κs a r₂ x₂ → r₁ ≡ r₂
text-same-one κs a r₁ r₂ x₁ x₂ p q = bool-one r₁ r₂ p q

pub room-one : (κs : Lfts 0) (a : Dens κs room-kinds.ps) (r₁ r₂ : (res_t room-kinds.r κs).Denot)
    (x₁ x₂ : AtExit (ended_of 0 room-kinds.ps room-kinds.r) κs) → room-reads.Post κs a r₁ x₁ → room-reads.Post κs a r₂ x₂ → r₁ ≡ r₂
room-one κs a r₁ r₂ x₁ x₂ p q = p.1 ∙ sym q.1

pub record-one : (κs : Lfts 1) (a : Dens κs record-kinds.ps) (r₁ r₂ : (res_t record-kinds.r κs).Denot)
    (x₁ x₂ : AtExit (ended_of 1 record-kinds.ps record-kinds.r) κs) → record-reads.Post κs a r₁ x₁ → record-reads.Post κs a r₂ x₂ → x₁.0.now ≡ x₂.0.now
record-one κs a r₁ r₂ x₁ x₂ p q = p ∙ sym q

pub note-full-one : (κs : Lfts 1) (a : Dens κs note-full-kinds.ps) (r₁ r₂ : (res_t note-full-kinds.r κs).Denot)
    (x₁ x₂ : AtExit (ended_of 1 note-full-kinds.ps note-full-kinds.r) κs) → note-full-reads.Post κs a r₁ x₁ → note-full-reads.Post κs a r₂ x₂ → x₁.0.now ≡ x₂.0.now
note-full-one κs a r₁ r₂ x₁ x₂ p q = p ∙ sym q

pub report-put-one : (κs : Lfts 3) (a : Dens κs report-put-kinds.ps) (r₁ r₂ : (res_t report-put-kinds.r κs).Denot)
    (x₁ x₂ : AtExit (ended_of 3 report-put-kinds.ps report-put-kinds.r) κs) → report-put-reads.Post κs a r₁ x₁ → report-put-reads.Post κs a r₂ x₂ → (r₁ ≡ r₂) × (x₁.1.1.0.now ≡ x₂.1.1.0.now)
report-put-one κs a r₁ r₂ x₁ x₂ p q = (p.0.filled-is ∙ sym q.0.filled-is, p.0.out-is ∙ sym q.0.out-is)

-- ---- parts: of what is handed out, what stands there

pub number-at-one : (κs : Lfts 1) (a : Dens κs number-at-kinds.ps) (r₁ r₂ : (res_t number-at-kinds.r κs).Denot) (x₁ x₂ : AtExit (ended_of 1 number-at-kinds.ps number-at-kinds.r) κs)
    → number-at-reads.Post κs a r₁ x₁ → number-at-reads.Post κs a r₂ x₂ → r₁ ≡ r₂
number-at-one κs a r₁ r₂ x₁ x₂ p q = p ∙ sym q

pub numbers-one : (κs : Lfts 1) (a : Dens κs numbers-kinds.ps) (r₁ r₂ : (res_t numbers-kinds.r κs).Denot) (x₁ x₂ : AtExit (ended_of 1 numbers-kinds.ps numbers-kinds.r) κs)
    → numbers-reads.Post κs a r₁ x₁ → numbers-reads.Post κs a r₂ x₂ → r₁.now ≡ r₂.now
numbers-one κs a r₁ r₂ x₁ x₂ p q = p ∙ sym q

pub bytes-one : (κs : Lfts 1) (a : Dens κs bytes-kinds.ps) (r₁ r₂ : (res_t bytes-kinds.r κs).Denot) (x₁ x₂ : AtExit (ended_of 1 bytes-kinds.ps bytes-kinds.r) κs)
    → bytes-reads.Post κs a r₁ x₁ → bytes-reads.Post κs a r₂ x₂ → r₁.now ≡ r₂.now
bytes-one κs a r₁ r₂ x₁ x₂ p q = p ∙ sym q

pub place-one : (κs : Lfts 1) (a : Dens κs place-kinds.ps) (r₁ r₂ : (res_t place-kinds.r κs).Denot) (x₁ x₂ : AtExit (ended_of 1 place-kinds.ps place-kinds.r) κs)
    → place-reads.Post κs a r₁ x₁ → place-reads.Post κs a r₂ x₂ → r₁ ≡ r₂
place-one κs a r₁ r₂ x₁ x₂ p q = p.0 ∙ sym q.0

pub list-one : (κs : Lfts 1) (a : Dens κs list-kinds.ps) (r₁ r₂ : (res_t list-kinds.r κs).Denot) (x₁ x₂ : AtExit (ended_of 1 list-kinds.ps list-kinds.r) κs)
    → list-reads.Post κs a r₁ x₁ → list-reads.Post κs a r₂ x₂ → r₁.now ≡ r₂.now
list-one κs a r₁ r₂ x₁ x₂ p q = p ∙ sym q

pub is-last-one : (κs : Lfts 1) (a : Dens κs is-last-kinds.ps) (r₁ r₂ : (res_t is-last-kinds.r κs).Denot) (x₁ x₂ : AtExit (ended_of 1 is-last-kinds.ps is-last-kinds.r) κs)
    → is-last-reads.Post κs a r₁ x₁ → is-last-reads.Post κs a r₂ x₂ → r₁ ≡ r₂
is-last-one κs a r₁ r₂ x₁ x₂ p q = p ∙ sym q
