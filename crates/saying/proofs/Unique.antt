-- The contract of the public function, as the check reads it, allows one outcome: the numbers, how much waits, and every lent slice.
use mathlib.Core.Path.{◌≡◌, sym, ap, ◌∙◌}
use borrow.Fn.Kinds.{Dens, res_t, ended_of}
use denote.Triple.Clauses.{AtExit}
use contract.Lifetimes.{Lfts}
use Rattle.framestate.specs.FrameState.{Slices}
use Rattle.stepping.proofs.Unique.{state-one, rows-one}
use Rattle.saying.proofs.say_line.Reads as say-line
use Rattle.saying.proofs.say_line.Kinds as say-line-kinds

-- last, pairs, marks, rows, answers, out
pub say-line-one : (κs : Lfts 7) (a : Dens κs say-line-kinds.ps) (r₁ r₂ : (res_t say-line-kinds.r κs).Denot)
    (x₁ x₂ : AtExit (ended_of 7 say-line-kinds.ps say-line-kinds.r) κs) → say-line.Post κs a r₁ x₁ → say-line.Post κs a r₂ x₂
    → (r₁ ≡ r₂) × (x₁.1.1.0.now ≡ x₂.1.1.0.now) × (x₁.1.1.1.0.now ≡ x₂.1.1.1.0.now) × (x₁.1.1.1.1.0.now ≡ x₂.1.1.1.1.0.now) × (x₁.1.1.1.1.1.0.now ≡ x₂.1.1.1.1.1.0.now) × (x₁.1.1.1.1.1.1.0.now ≡ x₂.1.1.1.1.1.1.0.now) × (x₁.1.1.1.1.1.1.1.0.now ≡ x₂.1.1.1.1.1.1.1.0.now)
say-line-one κs a r₁ r₂ x₁ x₂ p q =
    let o = state-one _ _ _ _ r₁.numbers r₂.numbers p.0.shows q.0.shows in
    let n = o.0 in
    let f = p.0.prints.filled-is ∙ sym q.0.prints.filled-is in (
      λ i. record { numbers = n i; filled = f i },
      ap (λ (s : Slices). s.last) o.1,
      ap (λ (s : Slices). s.pairs) o.1,
      ap (λ (s : Slices). s.marks) o.1,
      rows-one x₁.1.1.0.now x₂.1.1.0.now x₁.1.1.1.0.now x₂.1.1.1.0.now x₁.1.1.1.1.0.now x₂.1.1.1.1.0.now x₁.1.1.1.1.1.0.now x₂.1.1.1.1.1.0.now p.1.0.all-rows q.1.0.all-rows o.1,
      p.0.answers-are ∙ sym q.0.answers-are,
      p.0.prints.out-is ∙ sym q.0.prints.out-is,
    )
