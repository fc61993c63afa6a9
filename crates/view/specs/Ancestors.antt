-- Ancestors: what `ancestor` means by reach, in how far it is transitive, and that the set `ancestors` has exactly them; and
-- which distances there are. Assumes nothing of cycles.
use Rattle.std.proofs.Math.Path.{◌≡◌, refl, sym, ap}
use Rattle.std.proofs.Common.{◌∙◌, subst, true≢false, inl, inr, ⊎_elim, suc-add, eq-eqb, eqb-true}
use Rattle.std.specs.Prelude.{Bool, ◌||◌, ◌⊎◌, ◌↔◌, ℕ, zero, suc, ◌+◌, ◌≤◌, ◌<◌, ltb, length}
use Rattle.std.proofs.Math.Bool.{true, false, cond, or-true}
use mathlib.Core.List.{List, [], ◌∷◌, Memᴰ}
use Rattle.std.proofs.Math.Option.{some, none}
use native.Mathlib.Omega.{arith}
use Rattle.std.proofs.Math.Dec.{eqb}
use Rattle.sets.specs.Sets.{bit, at, member, insert, members, first}
use Rattle.sets.specs.Laws.{at-member, member-at, member-insert, members-only, members-all, count-tally}
use Rattle.view.specs.View.{View, insert_all, with_parents, grow, level, reached, reach, steps, far, distance, distance_or, ancestor, ancestors}
use Rattle.view.specs.Grow.{Formed, insert-formed, count-above}
use Rattle.view.specs.Reach.{Good, Path, here, there, path-join, reach-path, reach-refl, reach-below, reach-trans, reach-alone, reached-formed, steps-below, steps-self}

module _ (v : View) where
  pub ancestor-self : (x : ℕ) → ancestor v x x ≡ true
  unfolding ancestor
  ancestor-self x = ap (λ (t : Bool). t || (eqb x v.object || reach v x x)) (eq-eqb x x refl)

  pub ancestor-object : (x : ℕ) → ancestor v x v.object ≡ true
  unfolding ancestor
  ancestor-object x =
      ap (λ (t : Bool). eqb x v.object || (t || reach v x v.object)) (eq-eqb v.object v.object refl) ∙ or-true (eqb x v.object)

  pub reach-ancestor : (x y : ℕ) → reach v x y ≡ true → ancestor v x y ≡ true
  unfolding ancestor
  reach-ancestor x y m = ap (λ (t : Bool). eqb x y || (eqb y v.object || t)) m ∙ ap (λ (t : Bool). eqb x y || t) (or-true (eqb y v.object)) ∙ or-true (eqb x y)

module _ (v : View) (g : Good v) where
  -- for a class of the table the first of the three ways is one of the last
  pub ancestor-or : (x y : ℕ) → x < v.names → ancestor v x y ≡ (eqb y v.object || reach v x y)
  unfolding ancestor
  ancestor-or x y h = go (eqb x y) refl
    where
      go : (t : Bool) → eqb x y ≡ t → (t || (eqb y v.object || reach v x y)) ≡ (eqb y v.object || reach v x y)
      go true e = sym (ap (λ (t : Bool). eqb y v.object || t) (subst (λ (z : ℕ). reach v x z ≡ true) (eqb-true x y e) (reach-refl v g x h)) ∙ or-true (eqb y v.object))
      go false e = refl

  -- ANCESTOR: java/lang/Object, or reached
  pub ancestor-exactly : (x y : ℕ) → x < v.names → (ancestor v x y ≡ true) ↔ ((y ≡ v.object) ⊎ (reach v x y ≡ true))
  ancestor-exactly x y h = (λ a. go (eqb y v.object) refl (sym (ancestor-or x y h) ∙ a), back)
    where
      go : (t : Bool) → eqb y v.object ≡ t → (t || reach v x y) ≡ true → (y ≡ v.object) ⊎ (reach v x y ≡ true)
      go true e m = inl (eqb-true y v.object e)
      go false e m = inr m

      back : (y ≡ v.object) ⊎ (reach v x y ≡ true) → ancestor v x y ≡ true
      back (inl e) = subst (λ (z : ℕ). ancestor v x z ≡ true) (sym e) (ancestor-object v x)
      back (inr m) = reach-ancestor v x y m

  pub ancestor-reach : (x y : ℕ) → x < v.names → (y ≡ v.object → ⊥) → ancestor v x y ≡ true → reach v x y ≡ true
  ancestor-reach x y h n a = ⊎_elim (λ e. absurd (n e)) (λ m. m) ((ancestor-exactly x y h).0 a)

  pub ancestor-below : (x y : ℕ) → x < v.names → ancestor v x y ≡ true → y < v.names
  ancestor-below x y h a = ⊎_elim (λ e. let o = g.object-in in omega arith) (reach-below v g x h y) ((ancestor-exactly x y h).0 a)

  -- ---- what is transitive

  pub reach-then-ancestor : (x y z : ℕ) → x < v.names → reach v x y ≡ true → ancestor v y z ≡ true → ancestor v x z ≡ true
  reach-then-ancestor x y z h m a =
      (ancestor-exactly x z h).1
      (⊎_elim (λ e. inl e) (λ k. inr (reach-trans v g x y z h m k)) ((ancestor-exactly y z (reach-below v g x h y m)).0 a))

  -- every way that does not pass through Object is
  pub ancestor-trans : (x y z : ℕ) → x < v.names → (y ≡ v.object → ⊥) → ancestor v x y ≡ true → ancestor v y z ≡ true → ancestor v x z ≡ true
  ancestor-trans x y z h n a b = reach-then-ancestor x y z h (ancestor-reach x y h n a) b

  -- where Object has no parents, every way is
  pub ancestor-trans-top : v.parents v.object ≡ [] → (x y z : ℕ) → x < v.names → ancestor v x y ≡ true → ancestor v y z ≡ true → ancestor v x z ≡ true
  ancestor-trans-top e x y z h a b =
      (ancestor-exactly x z h).1
      (⊎_elim
      (λ q.
      ⊎_elim (λ o. inl o) (λ k. inl (reach-alone v g v.object g.object-in e z (subst (λ (w : ℕ). reach v w z ≡ true) q k)))
      ((ancestor-exactly y z (ancestor-below x y h a)).0 b))
      (λ m. (ancestor-exactly x z h).0 (reach-then-ancestor x y z h m b))
      ((ancestor-exactly x y h).0 a))

  -- ---- where no class reaches itself by a step and Object has no parents, no two are each an ancestor of the other

  no-way-back : ((c n : ℕ) → Path v c c (suc n) → ⊥) → {x y m n : ℕ} → Path v x y m → Path v y x n → x ≡ y
  no-way-back free here b = refl
  no-way-back free {x} {n = n} (there {n = m} a q) b = absurd (free x (m + n) (rw (suc-add m n) at (path-join v (there a q) b)))

  pub ancestor-antisymmetric : ((c n : ℕ) → Path v c c (suc n) → ⊥) → v.parents v.object ≡ []
      → (x y : ℕ) → x < v.names → y < v.names → ancestor v x y ≡ true → ancestor v y x ≡ true → x ≡ y
  ancestor-antisymmetric free top x y hx hy a b = go ((ancestor-exactly x y hx).0 a) ((ancestor-exactly y x hy).0 b)
    where
      up : (z w : ℕ) → z ≡ v.object → reach v z w ≡ true → w ≡ z
      up z w e m = reach-alone v g v.object g.object-in top w (subst (λ (u : ℕ). reach v u w ≡ true) e m) ∙ sym e

      go : (y ≡ v.object) ⊎ (reach v x y ≡ true) → (x ≡ v.object) ⊎ (reach v y x ≡ true) → x ≡ y
      go (inl e) (inl f) = f ∙ sym e
      go (inl e) (inr m) = up y x e m
      go (inr k) (inl f) = sym (up x y f k)
      go (inr k) (inr m) = no-way-back free (reach-path v g x hx y k).2 (reach-path v g y hy x m).2

  -- ---- the set
  module _ (x : ℕ) (h : x < v.names) where
    pub ancestors-formed : Formed (ancestors v x)
    unfolding ancestors
    ancestors-formed = insert-formed (reached v x) v.object (reached-formed v g x h)

    -- THE SET has exactly the ancestors
    pub ancestors-member : (y : ℕ) → member (ancestors v x) y ≡ ancestor v x y
    unfolding ancestors reach
    ancestors-member y =
        member-insert (reached v x) v.object y (let l = (reached-formed v g x h).0 in let o = g.object-in in let f = g.few in omega arith)
        ∙ sym (ancestor-or x y h)

    pub ancestors-at : (y : ℕ) → (at (ancestors v x) y ≡ 1) ↔ (ancestor v x y ≡ true)
    ancestors-at y = (λ e. sym (ancestors-member y) ∙ member-at (ancestors v x) y e, λ a. at-member (ancestors v x) y (ancestors-member y ∙ a))

    -- so the list of its members is the ancestors, ascending and each once, and its length, the count of the set, is their number
    pub ancestors-list : (y : ℕ) → Memᴰ y (members (at (ancestors v x)) 0 1024) ↔ (ancestor v x y ≡ true)
    ancestors-list y = (
      λ m. sym (ancestors-member y) ∙ members-only (ancestors v x) 1024 y m,
      λ a. members-all (ancestors v x) 1024 y (let b = ancestor-below x y h a in let f = g.few in omega arith) (ancestors-member y ∙ a),
    )

    pub ancestors-count : 0 < length (members (at (ancestors v x)) 0 1024)
    ancestors-count =
        let o = g.object-in in
        let f = g.few in
        let c = count-tally (ancestors v x) 1024 in
        let p = count-above (ancestors v x) x (omega arith) (ancestors-member x ∙ ancestor-self v x) in
        omega arith

    -- ---- distances

    pub distance-reached : (y : ℕ) → reach v x y ≡ true → distance v x y ≡ some (steps v x y)
    unfolding distance
    distance-reached y m = ap (λ (t : Bool). cond t (some (steps v x y)) (cond (eqb y v.object) (some far) none)) m

    pub distance-self : distance v x x ≡ some 0
    distance-self = distance-reached x (reach-refl v g x h) ∙ ap some (steps-self v g x h)

    -- Object's where it is not reached
    pub distance-object : reach v x v.object ≡ false → distance v x v.object ≡ some far
    unfolding distance
    distance-object m =
        ap (λ (t : Bool). cond t (some (steps v x v.object)) (cond (eqb v.object v.object) (some far) none)) m
        ∙ ap (λ (t : Bool). cond t (some far) none) (eq-eqb v.object v.object refl)

    -- there is one exactly of an ancestor
    pub distance-none : (y : ℕ) → (distance v x y ≡ none) ↔ (ancestor v x y ≡ false)
    unfolding distance
    distance-none y = (λ e. ancestor-or x y h ∙ some-there (reach v x y) (eqb y v.object) e, λ a. back (reach v x y) (eqb y v.object) (sym (ancestor-or x y h) ∙ a))
      where
        some-there : (r o : Bool) → cond r (some (steps v x y)) (cond o (some far) none) ≡ none → (o || r) ≡ false
        some-there true o e = absurd (let z : ◌≡◌ {A = ℕ} 0 1 = cc in omega arith)
        some-there false true e = absurd (let z : ◌≡◌ {A = ℕ} 0 1 = cc in omega arith)
        some-there false false e = refl

        back : (r o : Bool) → (o || r) ≡ false → cond r (some (steps v x y)) (cond o (some far) none) ≡ none
        back true true e = absurd (true≢false e)
        back true false e = absurd (true≢false e)
        back false true e = absurd (true≢false e)
        back false false e = refl

    -- none is above that of an unreached Object: a sum of two needs 63 digits
    pub distance-bound : (y : ℕ) → distance_or (distance v x y) ≤ far
    unfolding distance
    distance-bound y = go (reach v x y) refl (eqb y v.object)
      where
        go : (r : Bool) → reach v x y ≡ r → (o : Bool) → distance_or (cond r (some (steps v x y)) (cond o (some far) none)) ≤ far
        go true e o = let l = steps-below v g x h y e in let f = g.few in omega arith
        go false e true = omega arith
        go false e false = omega arith

-- ---- ANCESTOR IS NOT TRANSITIVE through Object: class 0 has a record without parents, 2 is Object and has the parent 1

abbrev upward : ℕ → List ℕ
upward zero = []
upward (suc zero) = []
upward (suc (suc zero)) = 1 ∷ []
upward (suc (suc (suc c))) = []

abbrev pub over_object : View
over_object = record { names = 3; object = 2; recorded = λ c. ltb c 3; parents = upward; declared = λ c. false; interface = λ c. false; final = λ c. false }

pub not-transitive : (ancestor over_object 0 2 ≡ true) × (ancestor over_object 2 1 ≡ true) × (ancestor over_object 0 1 ≡ false)
unfolding bit at member insert members first insert_all with_parents grow level reached reach ancestor
not-transitive = (refl, refl, refl)
