-- WHAT ASSIGNABILITY SAYS of two references, and compatibility of any two types: classes by the relation, of which only No refuses;
-- arrays by their elements; an array to Object, Cloneable and Serializable alone. Assumes nothing but, where it says so, a lawful world.
use Rattle.std.specs.Prelude.{◌≡◌, Bool, ◌&&◌, ◌||◌, ◌⊎◌, ◌↔◌, ℕ, eqb}
use Rattle.std.proofs.Math.Path.{refl, ap, ap₂}
use Rattle.std.proofs.Common.{sym, ◌∙◌, true≢false}
use Rattle.std.proofs.Math.Bool.{true, false, or-true}
use Rattle.std.proofs.lemmas.Bool.{false≢true}
use Rattle.std.proofs.Math.Logic.{inl, inr}
use Rattle.std.proofs.Math.Option.{some}
use borrow.Author.Tests.{eq-eqb, eqb-true}
use Rattle.order.specs.Truth.{implied-both}
use Rattle.ty.specs.Types.{ArgType, Primitive, Object, Array, Unknown, compare, is_primitive, is_reference}
use Rattle.view.specs.declared.Relation.{Relation}
use Rattle.view.specs.declared.Relation.TheVariants.{Yes, No, Unknown as Incomplete}
use Rattle.lattice.specs.Lattice.{World, Lawful, same_type, is_number, not_no, elements_assignable, array_parent, assignable_apart, is_assignable, producer_bound_compatible}
use Rattle.lattice.specs.Same.{same-refl, same-equal}

-- ---- equality of types

pub same-exactly : (t u : ArgType) → (same_type t u ≡ true) ↔ (t ≡ u)
same-exactly t u = (same-equal t u, λ e. ap (same_type t) (sym e) ∙ same-refl t)

same-arrays : (t u : ArgType) → same_type (Array t) (Array u) ≡ same_type t u
unfolding same_type compare
same-arrays t u = refl

same-numbers : (j k : ℕ) → same_type (Primitive j) (Primitive k) ≡ true → j ≡ k
unfolding same_type compare
same-numbers j k h = let e = (same-exactly (Primitive j) (Primitive k)).0 h in let r : j ≡ k = cc in r

-- equality of two primitives is that of their numbers
pub same-primitives : (j k : ℕ) → same_type (Primitive j) (Primitive k) ≡ eqb j k
same-primitives j k =
    implied-both (same_type (Primitive j) (Primitive k)) (eqb j k) (λ h. eq-eqb j k (same-numbers j k h))
    (λ h. (same-exactly (Primitive j) (Primitive k)).1 (ap Primitive (eqb-true j k h)))

or-itself : (a : Bool) → (a || a) ≡ a
or-itself true = refl
or-itself false = refl

-- an equation where the first way is only one of the second's
or-second : (a b : Bool) → (a ≡ true → b ≡ true) → (a || b) ≡ b
or-second true b f = sym (f refl)
or-second false b f = refl

only-no : (r : Relation) → not_no r ≡ false → r ≡ No
only-no Yes h = absurd (true≢false h)
only-no No h = refl
only-no Incomplete h = absurd (true≢false h)

module _ (w : World) where
  -- REFLEXIVE
  pub assignable-self : (t : ArgType) → is_assignable w t t ≡ true
  unfolding is_assignable
  assignable-self t = ap (λ (b : Bool). b || assignable_apart w t t) (same-refl t)

  -- ---- two classes: by the relation

  pub assignable-classes : Lawful w → (c d : ℕ) → is_assignable w (Object c) (Object d) ≡ not_no (w.relation c d)
  unfolding is_assignable assignable_apart
  assignable-classes g c d = or-second (same_type (Object c) (Object d)) (not_no (w.relation c d)) same
    where
      same : same_type (Object c) (Object d) ≡ true → not_no (w.relation c d) ≡ true
      same h =
          let e = (same-exactly (Object c) (Object d)).0 h in
          let q : c ≡ d = cc in
          ap (λ (x : ℕ). not_no (w.relation c x)) (sym q) ∙ ap not_no (g.self c)

  -- ONLY No refuses: what the table leaves open passes
  pub refused-exactly : Lawful w → (c d : ℕ) → (is_assignable w (Object c) (Object d) ≡ false) ↔ (w.relation c d ≡ No)
  refused-exactly g c d = (λ h. only-no (w.relation c d) (sym (assignable-classes g c d) ∙ h), λ e. assignable-classes g c d ∙ ap not_no e)

  pub open-passes : (c d : ℕ) → w.relation c d ≡ Incomplete → is_assignable w (Object c) (Object d) ≡ true
  unfolding is_assignable assignable_apart
  open-passes c d e = ap (λ (r : Relation). same_type (Object c) (Object d) || not_no r) e ∙ or-true (same_type (Object c) (Object d))

  -- ---- a reference and a primitive: never, either way

  pub reference-primitive : (t : ArgType) (k : ℕ) → is_reference t ≡ true → (is_assignable w t (Primitive k) ≡ false) × (is_assignable w (Primitive k) t ≡ false)
  unfolding is_reference is_assignable assignable_apart same_type compare
  reference-primitive (Primitive j) k h = absurd (false≢true h)
  reference-primitive (Object c) k h = (refl, refl)
  reference-primitive (Array t) k h = (refl, refl)
  reference-primitive (Unknown cs) k h = absurd (false≢true h)

  -- ---- an array and a class: to Object, Cloneable, Serializable alone, and no class to an array

  pub array-class : (t : ArgType) (c : ℕ) → is_assignable w (Array t) (Object c) ≡ array_parent w c
  unfolding is_assignable assignable_apart same_type compare
  array-class t c = refl

  pub class-array : (c : ℕ) (t : ArgType) → is_assignable w (Object c) (Array t) ≡ false
  unfolding is_assignable assignable_apart same_type compare
  class-array c t = refl

  module _ (t : ArgType) where
    pub array-object : is_assignable w (Array t) (Object w.object) ≡ true
    unfolding array_parent
    array-object = array-class t w.object ∙ rw (eq-eqb w.object w.object refl)

    pub array-cloneable : (c : ℕ) → w.cloneable ≡ some c → is_assignable w (Array t) (Object c) ≡ true
    unfolding array_parent
    array-cloneable c e = array-class t c ∙ rw (e, eq-eqb c c refl, or-true (eqb c w.object))

    pub array-serializable : (c : ℕ) → w.serializable ≡ some c → is_assignable w (Array t) (Object c) ≡ true
    unfolding array_parent
    array-serializable c e = array-class t c ∙ rw (e, eq-eqb c c refl, or-true (is_number c w.cloneable), or-true (eqb c w.object))

  -- ---- two arrays: the whole question one dimension lower, and never to widen a primitive

  elements-whole : (t u : ArgType) (whole : Bool) → is_primitive t ≡ false → is_primitive u ≡ false → elements_assignable t u whole ≡ whole
  unfolding elements_assignable
  elements-whole t u whole h i = rw (h, i)

  pub assignable-arrays : (t u : ArgType) → is_primitive t ≡ false → is_primitive u ≡ false → is_assignable w (Array t) (Array u) ≡ is_assignable w t u
  unfolding is_assignable assignable_apart
  assignable-arrays t u h i =
      ap₂ (λ (a b : Bool). a || b) (same-arrays t u) (elements-whole t u (same_type t u || assignable_apart w t u) h i)
      ∙ or-second (same_type t u) (same_type t u || assignable_apart w t u) (λ e. rw e)

  pub primitive-arrays : (j k : ℕ) → is_assignable w (Array (Primitive j)) (Array (Primitive k)) ≡ eqb j k
  unfolding is_primitive is_assignable assignable_apart elements_assignable
  primitive-arrays j k = ap (λ (b : Bool). b || same_type (Primitive j) (Primitive k)) (same-arrays (Primitive j) (Primitive k)) ∙ or-itself (same_type (Primitive j) (Primitive k)) ∙ same-primitives j k

  pub mixed-arrays : (j : ℕ) (u : ArgType) → is_primitive u ≡ false
      → (is_assignable w (Array (Primitive j)) (Array u) ≡ false) × (is_assignable w (Array u) (Array (Primitive j)) ≡ false)
  unfolding is_primitive is_assignable assignable_apart elements_assignable same_type compare
  mixed-arrays j (Primitive k) h = absurd (true≢false h)
  mixed-arrays j (Object d) h = (refl, refl)
  mixed-arrays j (Array u) h = (refl, refl)
  mixed-arrays j (Unknown ds) h = (refl, refl)

  -- ---- compatibility: two references, or assignable

  pub compatible-references : (t u : ArgType) → is_reference t ≡ true → is_reference u ≡ true → producer_bound_compatible w t u ≡ true
  unfolding producer_bound_compatible
  compatible-references t u h i = rw (h, i)

  pub compatible-assignable : (t u : ArgType) → is_assignable w t u ≡ true → producer_bound_compatible w t u ≡ true
  unfolding producer_bound_compatible
  compatible-assignable t u h = rw (h, or-true (is_reference t && is_reference u))

  pub compatible-or : (t u : ArgType) → producer_bound_compatible w t u ≡ true → (is_assignable w t u ≡ true) ⊎ ((is_reference t ≡ true) × (is_reference u ≡ true))
  unfolding producer_bound_compatible
  compatible-or t u h = go (is_reference t) refl (is_reference u) refl h
    where
      go : (a : Bool) → is_reference t ≡ a → (b : Bool) → is_reference u ≡ b → ((a && b) || is_assignable w t u) ≡ true
          → (is_assignable w t u ≡ true) ⊎ ((is_reference t ≡ true) × (is_reference u ≡ true))
      go true e true f q = inr (e, f)
      go true e false f q = inl q
      go false e b f q = inl q
