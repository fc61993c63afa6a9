-- The promise of each public function, as the check reads it (`Reads.Post`), allows one result.
use mathlib.Core.Path.{◌≡◌, sym, ◌∙◌}
use mathlib.Core.List.{List}
use borrow.Fn.Kinds.{ParamKind, ResultKind, Out, Dens, res_t, ended_of}
use denote.Triple.Clauses.{AtExit}
use contract.Lifetimes.{Lfts}
use Rattle.keys.proofs.rank_of.Reads as rank-of
use Rattle.keys.proofs.rank_of.Kinds as rank-of-kinds
use Rattle.keys.proofs.type_of_rank.Reads as type-of-rank
use Rattle.keys.proofs.type_of_rank.Kinds as type-of-rank-kinds
use Rattle.keys.proofs.compare_types.Reads as compare-types
use Rattle.keys.proofs.compare_types.Kinds as compare-types-kinds
use Rattle.keys.proofs.key_of.Reads as key_of
use Rattle.keys.proofs.key_of.Kinds as key-of-kinds
use Rattle.keys.proofs.key_component.Reads as key-component
use Rattle.keys.proofs.key_component.Kinds as key-component-kinds
use Rattle.keys.proofs.key_kind.Reads as key-kind
use Rattle.keys.proofs.key_kind.Kinds as key-kind-kinds
use Rattle.keys.proofs.key_type.Reads as key-type
use Rattle.keys.proofs.key_type.Kinds as key-type-kinds

-- results that meet a promise for the same arguments are equal
abbrev pub OneResult : (ps : List (ParamKind 0)) (r : ResultKind 0) → Out 0 ps r → Type 0
OneResult ps r Post =
    (κs : Lfts 0) (a : Dens κs ps) (r₁ r₂ : (res_t r κs).Denot) (x₁ x₂ : AtExit (ended_of 0 ps r) κs) → Post κs a r₁ x₁ → Post κs a r₂ x₂ → r₁ ≡ r₂

pub rank-of-one : OneResult rank-of-kinds.ps rank-of-kinds.r rank-of.Post
rank-of-one κs a r₁ r₂ x₁ x₂ p q = p ∙ sym q

pub type-of-rank-one : OneResult type-of-rank-kinds.ps type-of-rank-kinds.r type-of-rank.Post
type-of-rank-one κs a r₁ r₂ x₁ x₂ p q = λ i. record { word = (p ∙ sym q) i }

pub compare-types-one : OneResult compare-types-kinds.ps compare-types-kinds.r compare-types.Post
compare-types-one κs a r₁ r₂ x₁ x₂ p q = p ∙ sym q

pub key-of-one : OneResult key-of-kinds.ps key-of-kinds.r key_of.Post
key-of-one κs a r₁ r₂ x₁ x₂ p q = p ∙ sym q

pub key-component-one : OneResult key-component-kinds.ps key-component-kinds.r key-component.Post
key-component-one κs a r₁ r₂ x₁ x₂ p q = p ∙ sym q

pub key-kind-one : OneResult key-kind-kinds.ps key-kind-kinds.r key-kind.Post
key-kind-one κs a r₁ r₂ x₁ x₂ p q = p ∙ sym q

pub key-type-one : OneResult key-type-kinds.ps key-type-kinds.r key-type.Post
key-type-one κs a r₁ r₂ x₁ x₂ p q = λ i. record { word = (p ∙ sym q) i }
