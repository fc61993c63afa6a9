-- The contract of each public function, as the check reads it, allows one outcome, both slices included; that of `send` for each load.
use mathlib.Core.Path.{◌≡◌, sym, ap, ◌∙◌}
use borrow.Fn.Kinds.{Dens, res_t, ended_of}
use denote.Param.Laws.{Laws, IsCopy}
use denote.RattleType.{RattleType}
use denote.Triple.Clauses.{AtExit}
use contract.Lifetimes.{Lfts}
use mir.Syntax.{Dict}
use Rattle.std.specs.declared.clone.Clone
use Rattle.inserting.specs.Store.{Store}
use Rattle.passing.specs.declared.Load
use Rattle.passing.proofs.send.Reads as send
use Rattle.passing.proofs.send.Kinds as send-kinds
use Rattle.passing.proofs.send_arrays.Reads as send-arrays
use Rattle.passing.proofs.send_arrays.Kinds as send-arrays-kinds

module _ (T : RattleType) (L : Laws T) (C : IsCopy T) (load : Load.Ghosts T.Denot) (puts : Dict) (clone : Clone.Ghosts T.Denot) (clones : Dict) where
  pub send-one : (κs : Lfts 4) (a : Dens κs (send-kinds.ps T L C)) (r₁ r₂ : (res_t (send-kinds.r T L C) κs).Denot) (x₁ x₂ : AtExit (ended_of 4 (send-kinds.ps T L C) (send-kinds.r T L C)) κs)
      → send.Post T L C load puts clone clones κs a r₁ x₁ → send.Post T L C load puts clone clones κs a r₂ x₂ → (r₁ ≡ r₂) × (x₁.0.now ≡ x₂.0.now) × (x₁.1.0.now ≡ x₂.1.0.now)
  send-one κs a r₁ r₂ x₁ x₂ p q =
      let e = p ∙ sym q in
      (ap (λ (s : Store). s.state) e, ap (λ (s : Store). s.cells) e, ap (λ (s : Store). s.ring) e)

pub send-arrays-one : (κs : Lfts 3) (a : Dens κs send-arrays-kinds.ps) (r₁ r₂ : (res_t send-arrays-kinds.r κs).Denot) (x₁ x₂ : AtExit (ended_of 3 send-arrays-kinds.ps send-arrays-kinds.r) κs)
    → send-arrays.Post κs a r₁ x₁ → send-arrays.Post κs a r₂ x₂ → (r₁ ≡ r₂) × (x₁.0.now ≡ x₂.0.now) × (x₁.1.0.now ≡ x₂.1.0.now)
send-arrays-one κs a r₁ r₂ x₁ x₂ p q =
    let e = p ∙ sym q in
    (ap (λ (s : Store). s.state) e, ap (λ (s : Store). s.cells) e, ap (λ (s : Store). s.ring) e)
