-- The contract of each function, as the check reads it, allows one result.
use mathlib.Core.Path.{◌≡◌, sym, ◌∙◌}
use borrow.Fn.Kinds.{Dens, res_t, ended_of}
use denote.Triple.Clauses.{AtExit}
use contract.Lifetimes.{Lfts}
use Rattle.framestate.proofs.refuse.Reads as refuse
use Rattle.framestate.proofs.refuse.Kinds as refuse-kinds
use Rattle.framestate.proofs.accept.Reads as accept
use Rattle.framestate.proofs.accept.Kinds as accept-kinds
use Rattle.framestate.proofs.Numbers.named.Reads as named
use Rattle.framestate.proofs.Numbers.named.Kinds as named-kinds
use Rattle.framestate.proofs.Numbers.recorded.Reads as recorded
use Rattle.framestate.proofs.Numbers.recorded.Kinds as recorded-kinds
use Rattle.framestate.proofs.Numbers.counted.Reads as counted
use Rattle.framestate.proofs.Numbers.counted.Kinds as counted-kinds
use Rattle.framestate.proofs.Numbers.with_variables.Reads as with-variables
use Rattle.framestate.proofs.Numbers.with_variables.Kinds as with-variables-kinds
use Rattle.framestate.proofs.Numbers.with_bounds.Reads as with-bounds
use Rattle.framestate.proofs.Numbers.with_bounds.Kinds as with-bounds-kinds
use Rattle.framestate.proofs.Numbers.with_flows.Reads as with-flows
use Rattle.framestate.proofs.Numbers.with_flows.Kinds as with-flows-kinds
use Rattle.framestate.proofs.Numbers.with_uppers.Reads as with-uppers
use Rattle.framestate.proofs.Numbers.with_uppers.Kinds as with-uppers-kinds
use Rattle.framestate.proofs.Numbers.with_reads.Reads as with-reads
use Rattle.framestate.proofs.Numbers.with_reads.Kinds as with-reads-kinds
use Rattle.framestate.proofs.Numbers.with_writes.Reads as with-writes
use Rattle.framestate.proofs.Numbers.with_writes.Kinds as with-writes-kinds
use Rattle.framestate.proofs.Numbers.asked.Reads as asked
use Rattle.framestate.proofs.Numbers.asked.Kinds as asked-kinds

pub refuse-one : (κs : Lfts 0) (a : Dens κs refuse-kinds.ps) (r₁ r₂ : (res_t refuse-kinds.r κs).Denot)
    (x₁ x₂ : AtExit (ended_of 0 refuse-kinds.ps refuse-kinds.r) κs) → refuse.Post κs a r₁ x₁ → refuse.Post κs a r₂ x₂ → r₁ ≡ r₂
refuse-one κs a r₁ r₂ x₁ x₂ p q = p ∙ sym q

pub accept-one : (κs : Lfts 0) (a : Dens κs accept-kinds.ps) (r₁ r₂ : (res_t accept-kinds.r κs).Denot)
    (x₁ x₂ : AtExit (ended_of 0 accept-kinds.ps accept-kinds.r) κs) → accept.Post κs a r₁ x₁ → accept.Post κs a r₂ x₂ → r₁ ≡ r₂
accept-one κs a r₁ r₂ x₁ x₂ p q = p ∙ sym q

pub named-one : (κs : Lfts 0) (a : Dens κs named-kinds.ps) (r₁ r₂ : (res_t named-kinds.r κs).Denot)
    (x₁ x₂ : AtExit (ended_of 0 named-kinds.ps named-kinds.r) κs) → named.Post κs a r₁ x₁ → named.Post κs a r₂ x₂ → r₁ ≡ r₂
named-one κs a r₁ r₂ x₁ x₂ p q = p ∙ sym q

pub recorded-one : (κs : Lfts 0) (a : Dens κs recorded-kinds.ps) (r₁ r₂ : (res_t recorded-kinds.r κs).Denot)
    (x₁ x₂ : AtExit (ended_of 0 recorded-kinds.ps recorded-kinds.r) κs) → recorded.Post κs a r₁ x₁ → recorded.Post κs a r₂ x₂ → r₁ ≡ r₂
recorded-one κs a r₁ r₂ x₁ x₂ p q = p ∙ sym q

pub counted-one : (κs : Lfts 0) (a : Dens κs counted-kinds.ps) (r₁ r₂ : (res_t counted-kinds.r κs).Denot)
    (x₁ x₂ : AtExit (ended_of 0 counted-kinds.ps counted-kinds.r) κs) → counted.Post κs a r₁ x₁ → counted.Post κs a r₂ x₂ → r₁ ≡ r₂
counted-one κs a r₁ r₂ x₁ x₂ p q = p ∙ sym q

pub with-variables-one : (κs : Lfts 0) (a : Dens κs with-variables-kinds.ps) (r₁ r₂ : (res_t with-variables-kinds.r κs).Denot)
    (x₁ x₂ : AtExit (ended_of 0 with-variables-kinds.ps with-variables-kinds.r) κs) → with-variables.Post κs a r₁ x₁ → with-variables.Post κs a r₂ x₂ → r₁ ≡ r₂
with-variables-one κs a r₁ r₂ x₁ x₂ p q = p ∙ sym q

pub with-bounds-one : (κs : Lfts 0) (a : Dens κs with-bounds-kinds.ps) (r₁ r₂ : (res_t with-bounds-kinds.r κs).Denot)
    (x₁ x₂ : AtExit (ended_of 0 with-bounds-kinds.ps with-bounds-kinds.r) κs) → with-bounds.Post κs a r₁ x₁ → with-bounds.Post κs a r₂ x₂ → r₁ ≡ r₂
with-bounds-one κs a r₁ r₂ x₁ x₂ p q = p ∙ sym q

pub with-flows-one : (κs : Lfts 0) (a : Dens κs with-flows-kinds.ps) (r₁ r₂ : (res_t with-flows-kinds.r κs).Denot)
    (x₁ x₂ : AtExit (ended_of 0 with-flows-kinds.ps with-flows-kinds.r) κs) → with-flows.Post κs a r₁ x₁ → with-flows.Post κs a r₂ x₂ → r₁ ≡ r₂
with-flows-one κs a r₁ r₂ x₁ x₂ p q = p ∙ sym q

pub with-uppers-one : (κs : Lfts 0) (a : Dens κs with-uppers-kinds.ps) (r₁ r₂ : (res_t with-uppers-kinds.r κs).Denot)
    (x₁ x₂ : AtExit (ended_of 0 with-uppers-kinds.ps with-uppers-kinds.r) κs) → with-uppers.Post κs a r₁ x₁ → with-uppers.Post κs a r₂ x₂ → r₁ ≡ r₂
with-uppers-one κs a r₁ r₂ x₁ x₂ p q = p ∙ sym q

pub with-reads-one : (κs : Lfts 0) (a : Dens κs with-reads-kinds.ps) (r₁ r₂ : (res_t with-reads-kinds.r κs).Denot)
    (x₁ x₂ : AtExit (ended_of 0 with-reads-kinds.ps with-reads-kinds.r) κs) → with-reads.Post κs a r₁ x₁ → with-reads.Post κs a r₂ x₂ → r₁ ≡ r₂
with-reads-one κs a r₁ r₂ x₁ x₂ p q = p ∙ sym q

pub with-writes-one : (κs : Lfts 0) (a : Dens κs with-writes-kinds.ps) (r₁ r₂ : (res_t with-writes-kinds.r κs).Denot)
    (x₁ x₂ : AtExit (ended_of 0 with-writes-kinds.ps with-writes-kinds.r) κs) → with-writes.Post κs a r₁ x₁ → with-writes.Post κs a r₂ x₂ → r₁ ≡ r₂
with-writes-one κs a r₁ r₂ x₁ x₂ p q = p ∙ sym q

pub asked-one : (κs : Lfts 0) (a : Dens κs asked-kinds.ps) (r₁ r₂ : (res_t asked-kinds.r κs).Denot)
    (x₁ x₂ : AtExit (ended_of 0 asked-kinds.ps asked-kinds.r) κs) → asked.Post κs a r₁ x₁ → asked.Post κs a r₂ x₂ → r₁ ≡ r₂
asked-one κs a r₁ r₂ x₁ x₂ p q = p ∙ sym q
