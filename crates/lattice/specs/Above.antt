-- THE JOIN OF TWO CONCRETE TYPES IS ABOVE BOTH: each is assignable to it. Of types that are not concrete this does not hold (NotLaws).
-- Cycles and parents of Object included.
use Rattle.std.specs.Prelude.{◌≡◌, Bool, cond, ◌&&◌, ◌||◌}
use Rattle.std.proofs.Math.Path.{refl, ap}
use Rattle.std.proofs.Common.{sym, ◌∙◌, true≢false, arith, eq-eqb, eqb-true, ltb-true, leb-true}
use Rattle.std.proofs.Math.Bool.{true, false, or-true, and-eq-true_iff}
use Rattle.std.proofs.lemmas.Bool.{false≢true}
use mathlib.Core.List.{List, [], ◌∷◌}
use Rattle.std.proofs.Math.Option.{Option, some, none}
use Prim.Native.Nat.{ℕ, ◌≤◌, ◌<◌}
use Rattle.std.proofs.Math.Dec.{eqb}
use Rattle.order.specs.Compare.{compare_numbers}
use Rattle.order.specs.Lists.{elem}
use Rattle.ty.specs.Types.{ArgType, Primitive, Object, Array, Unknown, compare, categories, is_known, is_primitive, is_concrete, ObjectCategory, ArrayCategory}
use Rattle.ty.specs.Words.{legal_at_base}
use Rattle.view.specs.declared.Relation.TheVariants.{Yes}
use Rattle.lattice.specs.Lattice.{World, Lawful, not_no, same_type, unknown_accepts, in_either, unknown_union, primitive_assignable, assignable_apart, is_assignable, narrow, under_double, join_primitive, in_both, or_full, join_known, class_or, join_elements, join_array_class, join_apart, join}
use Rattle.order.specs.Tests.{test_below, tested-below}
use Rattle.lattice.specs.References.{same-exactly, assignable-self, assignable-classes, array-object, assignable-arrays}
use Rattle.lattice.specs.Fits.{by-cond, ascending-elem}

module _ (w : World) where
  -- both are assignable to it
  abbrev pub Above : ArgType → ArgType → ArgType → Type 0
  Above t u v = (is_assignable w t v ≡ true) × (is_assignable w u v ≡ true)

  -- ---- two primitives: one computed test over the eleven categories each way

  tested : test_below 11 (λ j. test_below 11 (λ k. is_assignable w (Primitive j) (join_primitive j k) && is_assignable w (Primitive k) (join_primitive j k))) ≡ true
  unfolding test_below elem compare_numbers compare same_type unknown_accepts primitive_assignable assignable_apart is_assignable narrow under_double join_primitive
  tested = refl

  primitives-above : (j k : ℕ) → j ≤ 10 → k ≤ 10 → Above (Primitive j) (Primitive k) (join_primitive j k)
  primitives-above j k l m =
      (and-eq-true_iff (is_assignable w (Primitive j) (join_primitive j k)) (is_assignable w (Primitive k) (join_primitive j k))).0
      (tested-below 11 (λ b. is_assignable w (Primitive j) (join_primitive j b) && is_assignable w (Primitive b) (join_primitive j b)) k (omega arith)
      (tested-below 11 (λ a. test_below 11 (λ b. is_assignable w (Primitive a) (join_primitive a b) && is_assignable w (Primitive b) (join_primitive a b))) j (omega arith) tested))

  -- ---- an Unknown that has a known type's category

  in-list : (t : ArgType) (cs : List ℕ) → is_known t ≡ true → unknown_accepts cs t ≡ true → is_assignable w t (Unknown cs) ≡ true
  unfolding is_known compare same_type assignable_apart is_assignable
  in-list (Primitive k) cs i h = h
  in-list (Object c) cs i h = h
  in-list (Array t) cs i h = h
  in-list (Unknown ds) cs i h = absurd (false≢true i)

  -- a known type's one category, and where it is found
  accepted : (names : ℕ) (t : ArgType) (cs : List ℕ) → is_known t ≡ true → legal_at_base names t ≡ true
      → ((k : ℕ) → k ≤ 10 → elem k (categories t) ≡ true → elem k cs ≡ true) → unknown_accepts cs t ≡ true
  unfolding is_known legal_at_base elem categories unknown_accepts
  accepted names (Primitive k) cs i h f = f k (leb-true k 10 h) (rw (eq-eqb k k refl))
  accepted names (Object c) cs i h f = f ObjectCategory (omega arith) refl
  accepted names (Array t) cs i h f = f ArrayCategory (omega arith) refl
  accepted names (Unknown ds) cs i h f = absurd (false≢true i)

  union-above : (names : ℕ) (t u : ArgType) → is_known t ≡ true → is_known u ≡ true → legal_at_base names t ≡ true → legal_at_base names u ≡ true → Above t u (unknown_union t u)
  unfolding unknown_union
  union-above names t u i j h g = (
    in-list t both i (accepted names t both i h (λ k l e. has k l ∙ ap (λ (b : Bool). b || elem k (categories u)) e)),
    in-list u both j (accepted names u both j g (λ k l e. has k l ∙ ap (λ (b : Bool). elem k (categories t) || b) e ∙ or-true (elem k (categories t)))),
  )
    where
      both : List ℕ
      both = in_either (categories t) (categories u) 0 11

      has : (k : ℕ) → k ≤ 10 → elem k both ≡ (elem k (categories t) || elem k (categories u))
      has k l = ascending-elem (categories t) (categories u) 0 11 k (omega arith) (omega arith)

  -- ---- arrays

  -- a join of arrays is Object, where an element is primitive, or the array of the join
  elements-by : (P : ArgType → Type 0) (object : ℕ) (t u whole : ArgType) → P (Object object) → (is_primitive t ≡ false → is_primitive u ≡ false → P (Array whole)) → P (join_elements object t u whole)
  unfolding join_elements
  elements-by P object t u whole top each = go (is_primitive t) refl (is_primitive u) refl
    where
      go : (a : Bool) → is_primitive t ≡ a → (b : Bool) → is_primitive u ≡ b → P (cond (a || b) (Object object) (Array whole))
      go true p b q = top
      go false p true q = top
      go false p false q = each p q

  abbrev Other : ArgType → Type 0
  Other t = is_primitive t ≡ false

  known-other : (t : ArgType) (cs : List ℕ) → Other t → Other (join_known t cs)
  unfolding is_primitive join_known unknown_union
  known-other t cs h = by-cond Other (unknown_accepts cs t) t (unknown_union t (Unknown cs)) h refl

  class-other : (t u : ArgType) (c : ℕ) → Other (join_array_class w t u c)
  unfolding is_primitive join_array_class unknown_union
  class-other t u c = by-cond Other (eqb c w.object) (Object w.object) (unknown_union t u) refl refl

  -- what is no primitive joins to no primitive
  apart-other : (t u : ArgType) → Other t → Other u → Other (join_apart w t u)
  unfolding is_primitive join_apart
  apart-other (Primitive j) u h i = absurd (true≢false h)
  apart-other (Object c) (Primitive k) h i = absurd (true≢false i)
  apart-other (Object c) (Object d) h i = go (w.supertype c d)
    where
      go : (o : Option ℕ) → Other (class_or w.object o)
      go none = refl
      go (some s) = refl
  apart-other (Object c) (Array u) h i = class-other (Object c) (Array u) c
  apart-other (Object c) (Unknown ds) h i = known-other (Object c) ds refl
  apart-other (Array t) (Primitive k) h i = absurd (true≢false i)
  apart-other (Array t) (Object d) h i = class-other (Array t) (Object d) d
  apart-other (Array t) (Array u) h i = elements-by Other w.object t u (cond (same_type t u) t (join_apart w t u)) refl (λ p q. refl)
  apart-other (Array t) (Unknown ds) h i = known-other (Array t) ds refl
  apart-other (Unknown cs) (Primitive k) h i = absurd (true≢false i)
  apart-other (Unknown cs) (Object d) h i = known-other (Object d) cs refl
  apart-other (Unknown cs) (Array u) h i = known-other (Array u) cs refl
  apart-other (Unknown cs) (Unknown ds) h i = go (in_both cs ds)
    where
      go : (es : List ℕ) → Other (or_full es)
      go [] = refl
      go (e ∷ es) = refl

  pub join-other : (t u : ArgType) → is_primitive t ≡ false → is_primitive u ≡ false → is_primitive (join w t u) ≡ false
  unfolding join
  join-other t u h i = by-cond Other (same_type t u) t (join_apart w t u) h (apart-other t u h i)

  -- ---- the join

  -- the first where they are equal
  same-above : (t u : ArgType) → Above t u (join_apart w t u) → Above t u (join w t u)
  unfolding join
  same-above t u h = go (same_type t u) refl
    where
      go : (b : Bool) → same_type t u ≡ b → Above t u (cond b t (join_apart w t u))
      go true e = (assignable-self w t, ap (λ (x : ArgType). is_assignable w x t) (sym ((same-exactly t u).0 e)) ∙ assignable-self w t)
      go false e = h

  arrays-above : (t u : ArgType) → Above t u (join w t u) → Above (Array t) (Array u) (join_elements w.object t u (join w t u))
  arrays-above t u h =
      elements-by (Above (Array t) (Array u)) w.object t u (join w t u) (array-object w t, array-object w u)
      (λ p q.
      let o = join-other t u p q in
      (assignable-arrays w t (join w t u) p o ∙ h.0, assignable-arrays w u (join w t u) q o ∙ h.1))

module _ (w : World) (g : Lawful w) where
  abbrev Fit : ArgType → Type 0
  Fit t = legal_at_base w.names t ≡ true

  classes-above : (c d : ℕ) → c < w.names → d < w.names → Above w (Object c) (Object d) (class_or w.object (w.supertype c d))
  classes-above c d l m = go (w.supertype c d) refl
    where
      up : (x y : ℕ) → w.relation x y ≡ Yes → is_assignable w (Object x) (Object y) ≡ true
      up x y a = assignable-classes w g x y ∙ ap not_no a

      go : (o : Option ℕ) → w.supertype c d ≡ o → Above w (Object c) (Object d) (class_or w.object o)
      go none e = (up c w.object (g.top c), up d w.object (g.top d))
      go (some s) e = let a = g.above c d s l m e in (up c s a.1, up d s a.2)

  -- a class and an array
  class-array-above : (c : ℕ) (t u v : ArgType) → Above w (Object c) (Array t) (unknown_union u v) → Above w (Object c) (Array t) (join_array_class w u v c)
  unfolding join_array_class
  class-array-above c t u v h = go (eqb c w.object) refl
    where
      go : (b : Bool) → eqb c w.object ≡ b → Above w (Object c) (Array t) (cond b (Object w.object) (unknown_union u v))
      go true e = (
        ap (λ (x : ℕ). is_assignable w (Object x) (Object w.object)) (eqb-true c w.object e) ∙ assignable-self w (Object w.object),
        array-object w t,
      )
      go false e = h

  apart-above : (t u : ArgType) → Fit t → Fit u → is_concrete t ≡ true → is_concrete u ≡ true → Above w t u (join_apart w t u)
  unfolding is_known is_concrete legal_at_base join_apart join
  apart-above (Primitive j) (Primitive k) h i a b = primitives-above w j k (leb-true j 10 h) (leb-true k 10 i)
  apart-above (Primitive j) (Object d) h i a b = union-above w w.names (Primitive j) (Object d) refl refl h i
  apart-above (Primitive j) (Array u) h i a b = union-above w w.names (Primitive j) (Array u) refl refl h i
  apart-above (Primitive j) (Unknown ds) h i a b = absurd (false≢true b)
  apart-above (Object c) (Primitive k) h i a b = union-above w w.names (Object c) (Primitive k) refl refl h i
  apart-above (Object c) (Object d) h i a b = classes-above c d (ltb-true c w.names h) (ltb-true d w.names i)
  apart-above (Object c) (Array u) h i a b =
      class-array-above c u (Object c) (Array u) (union-above w w.names (Object c) (Array u) refl refl h i)
  apart-above (Object c) (Unknown ds) h i a b = absurd (false≢true b)
  apart-above (Array t) (Primitive k) h i a b = union-above w w.names (Array t) (Primitive k) refl refl h i
  apart-above (Array t) (Object d) h i a b =
      let q = union-above w w.names (Array t) (Object d) refl refl h i in
      let r = class-array-above d t (Array t) (Object d) (q.1, q.0) in
      (r.1, r.0)
  apart-above (Array t) (Array u) h i a b = arrays-above w t u (same-above w t u (apart-above t u h i a b))
  apart-above (Array t) (Unknown ds) h i a b = absurd (false≢true b)
  apart-above (Unknown cs) u h i a b = absurd (false≢true a)

  -- ABOVE BOTH
  pub join-above : (t u : ArgType) → legal_at_base w.names t ≡ true → legal_at_base w.names u ≡ true
      → is_concrete t ≡ true → is_concrete u ≡ true
      → (is_assignable w t (join w t u) ≡ true) × (is_assignable w u (join w t u) ≡ true)
  join-above t u h i a b = same-above w t u (apart-above t u h i a b)
