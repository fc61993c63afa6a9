-- THE NUMBERS of distances: an unreached Object's is usize::MAX / 4, none's is all ones, and a real one is below 1,024, so that each tells what
-- it stands for. Assumes nothing of cycles.
use Rattle.std.specs.Prelude.{◌≡◌, Bool, cond, ◌⊎◌, ◌↔◌, ℕ, ◌-◌, ◌/◌, ◌^◌, ◌<◌}
use Rattle.std.proofs.Math.Path.{refl}
use Rattle.std.proofs.Common.{sym, ap, ◌∙◌, true≢false, arith}
use Rattle.std.proofs.Math.Bool.{true, false}
use Rattle.std.proofs.Math.Logic.{inl, inr}
use Rattle.std.proofs.Math.Option.{some, none}
use Rattle.std.proofs.Math.Dec.{eqb}
use borrow.Author.Tests.{eqb-true}
use Rattle.view.specs.View.{View, reach, steps, far, distance, number_of, ancestor, relation_number}
use Rattle.view.specs.declared.Relation.TheVariants.{Yes, No, Unknown}
use Rattle.view.specs.Reach.{Good, steps-below}
use Rattle.view.specs.Ancestors.{ancestor-object, reach-ancestor, distance-none}

-- usize::MAX / 4, of a usize of 64 bits
pub far-number : far ≡ (2 ^ 64 - 1) / 4
far-number = refl

-- all ones
pub none-number : number_of none ≡ 2 ^ 64 - 1
unfolding number_of
none-number = refl

-- the answers of a relation, as the header numbers them
pub relation-numbers : (relation_number Yes ≡ 0) × (relation_number No ≡ 1) × (relation_number Unknown ≡ 2)
unfolding relation_number
relation-numbers = (refl, refl, refl)

-- ---- what the number of a distance tells, three ways that exclude each other

module _ (v : View) (g : Good v) (x : ℕ) (h : x < v.names) (y : ℕ) where
  -- how a number comes about: reached, Object that is not reached, neither
  Kinds : ℕ → Type 0
  Kinds n =
      ((reach v x y ≡ true) × (n < 1024))
      ⊎ (((reach v x y ≡ false) × (y ≡ v.object) × (n ≡ (2 ^ 64 - 1) / 4)) ⊎ ((ancestor v x y ≡ false) × (reach v x y ≡ false) × (n ≡ 2 ^ 64 - 1)))

  kinds : Kinds (number_of (distance v x y))
  unfolding Kinds number_of distance
  kinds = go (reach v x y) refl (eqb y v.object) refl
    where
      go : (r : Bool) → reach v x y ≡ r → (o : Bool) → eqb y v.object ≡ o → Kinds (number_of (cond r (some (steps v x y)) (cond o (some far) none)))
      go true e o q = inl (e, let l = steps-below v g x h y e in let f = g.few in omega arith)
      go false e true q = inr (inl (e, eqb-true y v.object q, refl))
      go false e false q = inr (inr ((distance-none v g x h y).0 (rw (e, q)), e, refl))

  -- BELOW 1,024 exactly where it is reached
  pub number-real : (number_of (distance v x y) < 1024) ↔ (reach v x y ≡ true)
  unfolding Kinds
  number-real = (λ l. there kinds l, λ m. back kinds m)
    where
      there : Kinds (number_of (distance v x y)) → number_of (distance v x y) < 1024 → reach v x y ≡ true
      there (inl (m, b)) l = m
      there (inr (inl (m, o, e))) l = absurd (omega arith)
      there (inr (inr (a, m, e))) l = absurd (omega arith)

      back : Kinds (number_of (distance v x y)) → reach v x y ≡ true → number_of (distance v x y) < 1024
      back (inl (m, b)) r = b
      back (inr (inl (m, o, e))) r = absurd (true≢false (sym r ∙ m))
      back (inr (inr (a, m, e))) r = absurd (true≢false (sym r ∙ m))

  -- FAR exactly for an Object that is not reached
  pub number-far : (number_of (distance v x y) ≡ (2 ^ 64 - 1) / 4) ↔ ((reach v x y ≡ false) × (y ≡ v.object))
  unfolding Kinds
  number-far = (λ l. there kinds l, λ m. back kinds m)
    where
      there : Kinds (number_of (distance v x y)) → number_of (distance v x y) ≡ (2 ^ 64 - 1) / 4 → (reach v x y ≡ false) × (y ≡ v.object)
      there (inl (m, b)) l = absurd (omega arith)
      there (inr (inl (m, o, e))) l = (m, o)
      there (inr (inr (a, m, e))) l = absurd (omega arith)

      back : Kinds (number_of (distance v x y)) → (reach v x y ≡ false) × (y ≡ v.object) → number_of (distance v x y) ≡ (2 ^ 64 - 1) / 4
      back (inl (m, b)) r = absurd (true≢false (sym m ∙ r.0))
      back (inr (inl (m, o, e))) r = e
      back (inr (inr (a, m, e))) r = absurd (true≢false (sym (ancestor-object v x) ∙ ap (ancestor v x) (sym r.1) ∙ a))

  -- ALL ONES exactly for what is no ancestor
  pub number-none : (number_of (distance v x y) ≡ 2 ^ 64 - 1) ↔ (ancestor v x y ≡ false)
  unfolding Kinds
  number-none = (λ l. there kinds l, λ m. back kinds m)
    where
      there : Kinds (number_of (distance v x y)) → number_of (distance v x y) ≡ 2 ^ 64 - 1 → ancestor v x y ≡ false
      there (inl (m, b)) l = absurd (omega arith)
      there (inr (inl (m, o, e))) l = absurd (omega arith)
      there (inr (inr (a, m, e))) l = a

      back : Kinds (number_of (distance v x y)) → ancestor v x y ≡ false → number_of (distance v x y) ≡ 2 ^ 64 - 1
      back (inl (m, b)) r = absurd (true≢false (sym (reach-ancestor v x y m) ∙ r))
      back (inr (inl (m, o, e))) r = absurd (true≢false (sym (ancestor-object v x) ∙ ap (ancestor v x) (sym o) ∙ r))
      back (inr (inr (a, m, e))) r = e
