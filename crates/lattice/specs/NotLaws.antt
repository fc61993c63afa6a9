-- WHAT DOES NOT HOLD: a join is neither commutative nor associative, not even without classes, need not be above an Unknown, and
-- with a cycle depends on the order of two classes; an array with Cloneable is no Object. Each by the smallest case found.
use Rattle.std.specs.Prelude.{◌≡◌, true, false, List, [], ◌∷◌, ℕ, zero, suc, ltb}
use Rattle.std.proofs.Math.Path.{refl}
use Rattle.std.proofs.Common.{sym, ◌∙◌, arith}
use Rattle.std.proofs.Math.Bool.{false≢true}
use Rattle.std.proofs.Math.Option.{none}
use borrow.Author.Tests.{eq-eqb, ne_eqb}
use Rattle.order.specs.Compare.{compare_numbers, compare_lists}
use Rattle.order.specs.Lists.{elem}
use Rattle.sets.specs.Sets.{bit, at, member, insert, members}
use Rattle.ty.specs.Types.{ArgType, Primitive, Object, Array, Unknown, compare, categories, Void, Boolean, ObjectCategory, ArrayCategory}
use Rattle.view.specs.View.{insert_all, with_parents, grow, level, reached, reach, ancestor, relation, supertype, View}
use Rattle.lattice.specs.Lattice.{World, same_type, has_all, unknown_accepts, in_either, unknown_union, assignable_apart, is_assignable, narrow, under_double, join_primitive, in_both, join_known, join_array_class, join_apart, join}

abbrev void : ArgType
void = Primitive Void

abbrev boolean : ArgType
boolean = Primitive Boolean

-- ---- primitives alone, in every world

module _ (w : World) where
  -- either order, and either way of brackets
  pub orders : (join w void boolean ≡ Unknown (Void ∷ Boolean ∷ [])) × (join w boolean void ≡ Unknown (Boolean ∷ Void ∷ []))
  unfolding elem compare_numbers compare same_type narrow under_double join_primitive join_apart join
  orders = (refl, refl)

  pub brackets : (join w (join w void boolean) boolean ≡ boolean) × (join w void (join w boolean boolean) ≡ Unknown (Void ∷ Boolean ∷ []))
  unfolding elem compare_numbers compare same_type unknown_accepts narrow under_double join_primitive join_known join_apart join
  brackets = (refl, refl)

  -- NOT COMMUTATIVE, by the order in an Unknown
  pub join-not-commutative : ((t u : ArgType) → join w t u ≡ join w u t) → ⊥
  join-not-commutative h =
      let q : Unknown (Void ∷ Boolean ∷ []) ≡ Unknown (Boolean ∷ Void ∷ []) = sym orders.0 ∙ h void boolean ∙ orders.1 in
      let z : Void ≡ Boolean = cc in
      omega arith

  -- NOT ASSOCIATIVE: an Unknown gives way to a type that it accepts
  pub join-not-associative : ((t u v : ArgType) → join w (join w t u) v ≡ join w t (join w u v)) → ⊥
  join-not-associative h =
      let q : boolean ≡ Unknown (Void ∷ Boolean ∷ []) = sym brackets.0 ∙ h void boolean boolean ∙ brackets.1 in
      let z : ◌≡◌ {A = ℕ} 0 1 = cc in
      omega arith

  -- NOT ABOVE BOTH where one is an Unknown: of two Unknowns only what both have is left, and the first is not assignable to that
  pub join-not-above : ((t u : ArgType) → is_assignable w t (join w t u) ≡ true) → ⊥
  unfolding elem compare_numbers compare_lists compare same_type has_all unknown_accepts in_both assignable_apart is_assignable join_apart join
  join-not-above h = false≢true (h (Unknown (Void ∷ Boolean ∷ [])) (Unknown (Void ∷ [])))

  -- ---- an array and a class: Object with Object, and with every other class, so with Cloneable, Unknown[Object, Array]

  module _ (t : ArgType) where
    pub array-with-object : (join w (Array t) (Object w.object) ≡ Object w.object) × (join w (Object w.object) (Array t) ≡ Object w.object)
    unfolding compare same_type join_array_class join_apart join
    array-with-object = let e = eq-eqb w.object w.object refl in (rw e, rw e)

    pub array-with-class : (c : ℕ) → (c ≡ w.object → ⊥)
        → (join w (Array t) (Object c) ≡ Unknown (ObjectCategory ∷ ArrayCategory ∷ [])) × (join w (Object c) (Array t) ≡ Unknown (ObjectCategory ∷ ArrayCategory ∷ []))
    unfolding elem compare categories same_type in_either unknown_union join_array_class join_apart join
    array-with-class c n = let e = ne_eqb c w.object n in (rw e, rw e)

-- ---- two classes that are each an ancestor of the other: the one named second

abbrev other : ℕ → List ℕ
other zero = 1 ∷ []
other (suc zero) = 0 ∷ []
other (suc (suc c)) = []

abbrev turning : View
turning = record { names = 3; object = 2; recorded = λ c. ltb c 3; parents = other; declared = λ c. false; interface = λ c. false; final = λ c. false }

abbrev pub circle : World
circle = record {
  names = 3;
  object = 2;
  relation = relation turning;
  supertype = supertype turning;
  cloneable = none;
  serializable = none;
}

pub circle-orders : (join circle (Object 0) (Object 1) ≡ Object 1) × (join circle (Object 1) (Object 0) ≡ Object 0)
unfolding bit at member insert members insert_all with_parents grow level reached reach ancestor supertype compare_numbers compare same_type join_apart join
circle-orders = (refl, refl)
