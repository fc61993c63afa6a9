-- The contract of `pass_rules`, as the check reads it, allows one outcome, both slices included.
use mathlib.Core.Path.{◌≡◌, sym, ap, ◌∙◌}
use borrow.Fn.Kinds.{Dens, res_t, ended_of}
use denote.Triple.Clauses.{AtExit}
use contract.Lifetimes.{Lfts}
use Rattle.inserting.specs.Store.{Store}
use Rattle.rules.proofs.pass_rules.Reads as rules
use Rattle.rules.proofs.pass_rules.Kinds as kinds

pub pass-rules-one : (κs : Lfts 8) (a : Dens κs kinds.ps) (r₁ r₂ : (res_t kinds.r κs).Denot) (x₁ x₂ : AtExit (ended_of 8 kinds.ps kinds.r) κs)
    → rules.Post κs a r₁ x₁ → rules.Post κs a r₂ x₂ → (r₁ ≡ r₂) × (x₁.0.now ≡ x₂.0.now) × (x₁.1.0.now ≡ x₂.1.0.now)
pass-rules-one κs a r₁ r₂ x₁ x₂ p q =
    let e = p ∙ sym q in
    (ap (λ (s : Store). s.state) e, ap (λ (s : Store). s.cells) e, ap (λ (s : Store). s.ring) e)
