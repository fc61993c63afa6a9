-- The contract of each public function, as the check reads it, allows one outcome.
use mathlib.Core.Path.{◌≡◌, sym, ◌∙◌}
use borrow.Fn.Kinds.{Dens, res_t, ended_of}
use denote.Triple.Clauses.{AtExit}
use contract.Lifetimes.{Lfts}
use Rattle.askframes.proofs.relation_frame.Reads as relation-frame
use Rattle.askframes.proofs.relation_frame.Kinds as relation-frame-kinds
use Rattle.askframes.proofs.supertype_frame.Reads as supertype-frame
use Rattle.askframes.proofs.supertype_frame.Kinds as supertype-frame-kinds
use Rattle.askframes.proofs.cast_frame.Reads as cast-frame
use Rattle.askframes.proofs.cast_frame.Kinds as cast-frame-kinds

pub relation-frame-one : (κs : Lfts 3) (a : Dens κs relation-frame-kinds.ps) (r₁ r₂ : (res_t relation-frame-kinds.r κs).Denot)
    (x₁ x₂ : AtExit (ended_of 3 relation-frame-kinds.ps relation-frame-kinds.r) κs) → relation-frame.Post κs a r₁ x₁ → relation-frame.Post κs a r₂ x₂ → r₁ ≡ r₂
relation-frame-one κs a r₁ r₂ x₁ x₂ p q = p ∙ sym q

pub supertype-frame-one : (κs : Lfts 3) (a : Dens κs supertype-frame-kinds.ps) (r₁ r₂ : (res_t supertype-frame-kinds.r κs).Denot)
    (x₁ x₂ : AtExit (ended_of 3 supertype-frame-kinds.ps supertype-frame-kinds.r) κs) → supertype-frame.Post κs a r₁ x₁ → supertype-frame.Post κs a r₂ x₂ → r₁ ≡ r₂
supertype-frame-one κs a r₁ r₂ x₁ x₂ p q = p ∙ sym q

pub cast-frame-one : (κs : Lfts 3) (a : Dens κs cast-frame-kinds.ps) (r₁ r₂ : (res_t cast-frame-kinds.r κs).Denot)
    (x₁ x₂ : AtExit (ended_of 3 cast-frame-kinds.ps cast-frame-kinds.r) κs) → cast-frame.Post κs a r₁ x₁ → cast-frame.Post κs a r₂ x₂ → r₁ ≡ r₂
cast-frame-one κs a r₁ r₂ x₁ x₂ p q = p ∙ sym q
