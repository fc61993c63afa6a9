-- The promise of each public function allows one result: two that meet it are equal, as the logic of the walks states a promise.
use mathlib.Core.Path.{◌≡◌, sym, ◌∙◌}
use seplogic.Ra.Ura.{Ura}
use base.Logic.{SProp, ent}
use prog.Memory.{Memory}
use prog.Routine.{Routine}
use types.Logic.{Logic}
use contract.Conj.{conj, conj_l, conj_r}
use contract.Lifetimes.{Lfts}
use contract.Monad.{Fun, fact, fact_i, fact_use}
use denote.Ref.{Bor}
use denote.Triple.Entry.{Args, Res}
use denote.Triple.Clauses.{AtExit}
use Prim.Native.Nat.{ℕ}
use mathlib.Core.List.{List}
use Rattle.refusals.specs.Numbers.{code-injective}
use Rattle.descriptor.specs.Read.{read-injective}
use Rattle.parser.specs.declared.DescriptorParser.{DescriptorParser}
use Rattle.parser.specs.contracts.new as new
use Rattle.parser.specs.contracts.moved as moved
use Rattle.parser.specs.contracts.peek as peek
use Rattle.parser.specs.contracts.consume as consume
use Rattle.parser.specs.contracts.ty as ty
use Rattle.parser.specs.contracts.finish as finish
use Rattle.parser.specs.contracts.first_type as first-type

both : {M : Type 1} (𝓤 : Ura M) {A : Type 0} (P Q : Type 0) (r₁ r₂ : A) → (P → Q → r₁ ≡ r₂) → ent 𝓤 (conj 𝓤 (fact 𝓤 P) (fact 𝓤 Q)) (fact 𝓤 (r₁ ≡ r₂))
both 𝓤 P Q r₁ r₂ f =
    fact_use 𝓤 P (conj_l 𝓤 (fact 𝓤 P) (fact 𝓤 Q)) (λ p. fact_use 𝓤 Q (conj_r 𝓤 (fact 𝓤 P) (fact 𝓤 Q)) (λ q. fact_i 𝓤 (r₁ ≡ r₂) (conj 𝓤 (fact 𝓤 P) (fact 𝓤 Q)) (f p q)))

-- a parser is its bytes and its offset
same : (p q : DescriptorParser) (b : Bor (List ℕ)) (n : ℕ) → (p.bytes ≡ b) × (p.offset ≡ n) → (q.bytes ≡ b) × (q.offset ≡ n) → p ≡ q
same p q b n e f = λ i. record { bytes = (e.0 ∙ sym f.0) i; offset = (e.1 ∙ sym f.1) i }

module _ {M : Type 1} {𝓤 : Ura M} (𝓛 : Logic 𝓤) (mem : Memory → SProp 𝓤) (run : Routine → Fun 𝓤) (κs : Lfts 1) where
  pub new-one : (a : Args new.signature κs) (r₁ r₂ : Res new.signature κs) (x₁ x₂ : AtExit new.ended κs)
      → ent 𝓤 (conj 𝓤 ((new.clauses 𝓛 mem run κs a).ensures tt r₁ x₁) ((new.clauses 𝓛 mem run κs a).ensures tt r₂ x₂)) (fact 𝓤 (r₁ ≡ r₂))
  new-one a r₁ r₂ x₁ x₂ = both 𝓤 _ _ r₁ r₂ (same r₁ r₂ _ _)

  pub moved-one : (a : Args moved.signature κs) (r₁ r₂ : Res moved.signature κs) (x₁ x₂ : AtExit moved.ended κs)
      → ent 𝓤 (conj 𝓤 ((moved.clauses 𝓛 mem run κs a).ensures tt r₁ x₁) ((moved.clauses 𝓛 mem run κs a).ensures tt r₂ x₂)) (fact 𝓤 (r₁ ≡ r₂))
  moved-one a r₁ r₂ x₁ x₂ = both 𝓤 _ _ r₁ r₂ (same r₁ r₂ _ _)

  pub peek-one : (a : Args peek.signature κs) (r₁ r₂ : Res peek.signature κs) (x₁ x₂ : AtExit peek.ended κs)
      → ent 𝓤 (conj 𝓤 ((peek.clauses 𝓛 mem run κs a).ensures tt r₁ x₁) ((peek.clauses 𝓛 mem run κs a).ensures tt r₂ x₂)) (fact 𝓤 (r₁ ≡ r₂))
  peek-one a r₁ r₂ x₁ x₂ = both 𝓤 _ _ r₁ r₂ (λ p q. p ∙ sym q)

  pub consume-one : (a : Args consume.signature κs) (r₁ r₂ : Res consume.signature κs) (x₁ x₂ : AtExit consume.ended κs)
      → ent 𝓤 (conj 𝓤 ((consume.clauses 𝓛 mem run κs a).ensures tt r₁ x₁) ((consume.clauses 𝓛 mem run κs a).ensures tt r₂ x₂)) (fact 𝓤 (r₁ ≡ r₂))
  consume-one a r₁ r₂ x₁ x₂ = both 𝓤 _ _ r₁ r₂ (λ p q. p ∙ sym q)

  pub ty-one : (a : Args ty.signature κs) (r₁ r₂ : Res ty.signature κs) (x₁ x₂ : AtExit ty.ended κs)
      → ent 𝓤 (conj 𝓤 ((ty.clauses 𝓛 mem run κs a).ensures tt r₁ x₁) ((ty.clauses 𝓛 mem run κs a).ensures tt r₂ x₂)) (fact 𝓤 (r₁ ≡ r₂))
  ty-one a r₁ r₂ x₁ x₂ = both 𝓤 _ _ r₁ r₂ (λ p q. read-injective r₁ r₂ (p ∙ sym q))

  pub finish-one : (a : Args finish.signature κs) (r₁ r₂ : Res finish.signature κs) (x₁ x₂ : AtExit finish.ended κs)
      → ent 𝓤 (conj 𝓤 ((finish.clauses 𝓛 mem run κs a).ensures tt r₁ x₁) ((finish.clauses 𝓛 mem run κs a).ensures tt r₂ x₂)) (fact 𝓤 (r₁ ≡ r₂))
  finish-one a r₁ r₂ x₁ x₂ = both 𝓤 _ _ r₁ r₂ (λ p q. code-injective r₁ r₂ (p ∙ sym q))

  pub first-type-one : (a : Args first-type.signature κs) (r₁ r₂ : Res first-type.signature κs) (x₁ x₂ : AtExit first-type.ended κs)
      → ent 𝓤 (conj 𝓤 ((first-type.clauses 𝓛 mem run κs a).ensures tt r₁ x₁) ((first-type.clauses 𝓛 mem run κs a).ensures tt r₂ x₂)) (fact 𝓤 (r₁ ≡ r₂))
  first-type-one a r₁ r₂ x₁ x₂ = both 𝓤 _ _ r₁ r₂ (λ p q. read-injective r₁ r₂ (p ∙ sym q))
