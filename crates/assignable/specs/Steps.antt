-- Assignability by the queries that the code asks of two types, one law for each case that it meets.
use Rattle.std.specs.Prelude.{◌≡◌, Bool, false, cond, ◌&&◌, ◌||◌, eqb, leb}
use Rattle.std.proofs.Math.Path.{refl, sym, ap, ap₂}
use Rattle.std.proofs.Common.{◌∙◌, true≢false, arith}
use Rattle.std.proofs.Math.Bool.{true}
use Rattle.std.proofs.Math.Option.{some, none}
use Prim.Native.Nat.{ℕ, zero, suc, ◌-◌, ◌^◌, ◌≤◌, ◌<◌}
use borrow.Author.Tests.{eq-eqb, ne_eqb, eqb-true, leb-true, leb-false, ltb-true}
use Rattle.ty.specs.Types.{ArgType, Primitive, Object, Array, Unknown, categories, is_known, is_primitive, is_object, is_array}
use Rattle.ty.specs.Words.{Legal, tag_of, load_of, type_of, base_of}
use Rattle.ty.specs.Shape.{type-array, type-flat, legal-element}
use Rattle.ty.specs.Steps.{array-test, check-object}
use Rattle.view.specs.View.{relation}
use Rattle.lattice.specs.Lattice.{World, same_type, is_number, not_no, unknown_accepts, primitive_assignable, elements_assignable, array_parent, assignable_apart, is_assignable}
use Rattle.lattice.specs.World.{present}
use Rattle.lattice.specs.Same.{same-refl, same-words}

never : {P : Type 0} → true ≡ false → P
never q = absurd (true≢false q)

-- ---- a class that every array is assignable to

-- a number that may be missing, all ones for that: a class is below 1,024
pub is-number : (class n : ℕ) → class < 1024 → is_number class (present n) ≡ eqb class n
unfolding present
is-number class n h = go (eqb n (2 ^ 64 - 1)) refl
  where
    go : (b : Bool) → eqb n (2 ^ 64 - 1) ≡ b → is_number class (cond b none (some n)) ≡ eqb class n
    go true e = let q = eqb-true n (2 ^ 64 - 1) e in sym (ne_eqb class n (λ p. omega arith))
    go false e = refl

parent-test : (w : World) (class cloneable serializable : ℕ) → class < 1024 → w.cloneable ≡ present cloneable → w.serializable ≡ present serializable
    → array_parent w class ≡ (eqb class w.object || (eqb class cloneable || eqb class serializable))
unfolding array_parent
parent-test w class cloneable serializable h p q =
    ap₂ (λ (a b : Bool). eqb class w.object || (a || b))
    (ap (is_number class) p ∙ is-number class cloneable h) (ap (is_number class) q ∙ is-number class serializable h)

-- the three tests, one after the other
module _ (w : World) (class cloneable serializable : ℕ) (h : class < 1024) (p : w.cloneable ≡ present cloneable) (q : w.serializable ≡ present serializable) where
  pub parent-object : class ≡ w.object → true ≡ array_parent w class
  parent-object e = sym (parent-test w class cloneable serializable h p q ∙ rw (eq-eqb class w.object e))

  pub parent-cloneable : (class ≡ w.object → ⊥) → class ≡ cloneable → true ≡ array_parent w class
  parent-cloneable d e =
      sym (parent-test w class cloneable serializable h p q ∙ rw (ne_eqb class w.object d, eq-eqb class cloneable e))

  pub parent-serializable : (class ≡ w.object → ⊥) → (class ≡ cloneable → ⊥) → eqb class serializable ≡ array_parent w class
  parent-serializable d e =
      sym (parent-test w class cloneable serializable h p q ∙ rw (ne_eqb class w.object d, ne_eqb class cloneable e))

-- ---- a flat word by what it is

module _ (w : ℕ) where
  flat-of : (f : ArgType → Bool) → ((t : ArgType) → f (Array t) ≡ false) → f (type_of w) ≡ true → type_of w ≡ base_of (tag_of w) (load_of w)
  flat-of f arrays h = go (leb (2 ^ 56) w) refl
    where
      go : (b : Bool) → leb (2 ^ 56) w ≡ b → type_of w ≡ base_of (tag_of w) (load_of w)
      go true e = never (sym h ∙ ap f (type-array w (leb-true (2 ^ 56) w e)) ∙ arrays (type_of (w - 2 ^ 56)))
      go false e = type-flat w (leb-false (2 ^ 56) w e)

  pub object-load : is_object (type_of w) ≡ true → type_of w ≡ Object (load_of w)
  unfolding is_object base_of
  object-load h = let q = flat-of is_object (λ t. refl) h in q ∙ go (tag_of w) (ap is_object (sym q) ∙ h)
    where
      go : (t : ℕ) → is_object (base_of t (load_of w)) ≡ true → base_of t (load_of w) ≡ Object (load_of w)
      go zero e = never (sym e)
      go (suc zero) e = refl
      go (suc (suc t)) e = never (sym e)

  pub primitive-load : is_primitive (type_of w) ≡ true → type_of w ≡ Primitive (load_of w)
  unfolding is_primitive base_of
  primitive-load h = let q = flat-of is_primitive (λ t. refl) h in q ∙ go (tag_of w) (ap is_primitive (sym q) ∙ h)
    where
      go : (t : ℕ) → is_primitive (base_of t (load_of w)) ≡ true → base_of t (load_of w) ≡ Primitive (load_of w)
      go zero e = refl
      go (suc zero) e = never (sym e)
      go (suc (suc t)) e = never (sym e)

  -- the number of a legal class
  pub class-lt : Legal w → is_object (type_of w) ≡ true → load_of w < 1024
  unfolding is_object base_of
  class-lt l h = ltb-true (load_of w) 1024 (sym (check-object 1024 w (go (tag_of w) refl (ap is_object (sym (flat-of is_object (λ t. refl) h)) ∙ h))) ∙ l)
    where
      go : (t : ℕ) → tag_of w ≡ t → is_object (base_of (tag_of w) (load_of w)) ≡ true → tag_of w ≡ 1
      go zero q e = never (sym e ∙ ap (λ (k : ℕ). is_object (base_of k (load_of w))) q)
      go (suc zero) q e = q
      go (suc (suc t)) q e = never (sym e ∙ ap (λ (k : ℕ). is_object (base_of k (load_of w))) q)

-- ---- types that are not equal

module _ (w : World) where
  -- to an Unknown, and from one to what is known
  pub apart-to : (t u : ArgType) → is_known u ≡ false → unknown_accepts (categories u) t ≡ assignable_apart w t u
  unfolding is_known categories assignable_apart
  apart-to t (Primitive k) h = never h
  apart-to t (Object c) h = never h
  apart-to t (Array u) h = never h
  apart-to (Primitive k) (Unknown cs) h = refl
  apart-to (Object c) (Unknown cs) h = refl
  apart-to (Array t) (Unknown cs) h = refl
  apart-to (Unknown ds) (Unknown cs) h = refl

  pub apart-from : (t u : ArgType) → is_known t ≡ false → is_known u ≡ true → unknown_accepts (categories t) u ≡ assignable_apart w t u
  unfolding is_known categories assignable_apart
  apart-from (Primitive k) u g h = never g
  apart-from (Object c) u g h = never g
  apart-from (Array t) u g h = never g
  apart-from (Unknown cs) (Primitive k) g h = refl
  apart-from (Unknown cs) (Object c) g h = refl
  apart-from (Unknown cs) (Array u) g h = refl
  apart-from (Unknown cs) (Unknown ds) g h = never (sym h)

  -- to a class: from an array, from a class, from a primitive
  pub array-to-class : (t : ArgType) (class : ℕ) → is_array t ≡ true → array_parent w class ≡ assignable_apart w t (Object class)
  unfolding is_array assignable_apart
  array-to-class (Primitive k) class h = never (sym h)
  array-to-class (Object c) class h = never (sym h)
  array-to-class (Array t) class h = refl
  array-to-class (Unknown cs) class h = never (sym h)

  pub class-to-class : (t : ArgType) (value class : ℕ) → t ≡ Object value → not_no (w.relation value class) ≡ assignable_apart w t (Object class)
  unfolding assignable_apart
  class-to-class t value class e = sym (ap (λ (u : ArgType). assignable_apart w u (Object class)) e)

  pub other-to-class : (t : ArgType) (class : ℕ) → is_known t ≡ true → is_array t ≡ false → is_object t ≡ false → false ≡ assignable_apart w t (Object class)
  unfolding is_known is_array is_object assignable_apart
  other-to-class (Primitive k) class a b c = refl
  other-to-class (Object d) class a b c = never c
  other-to-class (Array t) class a b c = never b
  other-to-class (Unknown cs) class a b c = never (sym a)

  -- two known types, the second no class, not both arrays
  pub primitives : (t u : ArgType) (value expected : ℕ) → t ≡ Primitive value → u ≡ Primitive expected → primitive_assignable value expected ≡ assignable_apart w t u
  unfolding assignable_apart
  primitives t u value expected p q = sym (ap₂ (assignable_apart w) p q)

  pub from-primitive : (t u : ArgType) → is_primitive t ≡ true → is_known u ≡ true → is_object u ≡ false → is_primitive u ≡ false → false ≡ assignable_apart w t u
  unfolding is_primitive is_known is_object assignable_apart
  from-primitive (Primitive k) (Primitive l) a b c d = never d
  from-primitive (Primitive k) (Object e) a b c d = never c
  from-primitive (Primitive k) (Array u) a b c d = refl
  from-primitive (Primitive k) (Unknown cs) a b c d = never (sym b)
  from-primitive (Object e) u a b c d = never (sym a)
  from-primitive (Array t) u a b c d = never (sym a)
  from-primitive (Unknown cs) u a b c d = never (sym a)

  pub from-reference : (t u : ArgType) → is_primitive t ≡ false → is_known t ≡ true → is_known u ≡ true → is_object u ≡ false
      → (is_array t && is_array u) ≡ false → false ≡ assignable_apart w t u
  unfolding is_primitive is_known is_object is_array assignable_apart
  from-reference (Primitive k) u a b c d e = never a
  from-reference (Object f) (Primitive l) a b c d e = refl
  from-reference (Object f) (Object g) a b c d e = never d
  from-reference (Object f) (Array u) a b c d e = refl
  from-reference (Object f) (Unknown cs) a b c d e = never (sym c)
  from-reference (Array t) (Primitive l) a b c d e = refl
  from-reference (Array t) (Object g) a b c d e = never d
  from-reference (Array t) (Array u) a b c d e = never e
  from-reference (Array t) (Unknown cs) a b c d e = never (sym c)
  from-reference (Unknown cs) u a b c d e = never (sym b)

-- ---- two arrays

pub both-arrays : (v e : ℕ) → (is_array (type_of v) && is_array (type_of e)) ≡ true → (2 ^ 56 ≤ v) × (2 ^ 56 ≤ e)
both-arrays v e h = go (leb (2 ^ 56) v) refl (leb (2 ^ 56) e) refl (ap₂ (λ (a b : Bool). a && b) (array-test v) (array-test e) ∙ h)
  where
    go : (a : Bool) → leb (2 ^ 56) v ≡ a → (b : Bool) → leb (2 ^ 56) e ≡ b → (a && b) ≡ true → (2 ^ 56 ≤ v) × (2 ^ 56 ≤ e)
    go true p true q r = (leb-true (2 ^ 56) v p, leb-true (2 ^ 56) e q)
    go true p false q r = never (sym r)
    go false p b q r = never (sym r)

pub legal-elements : (v : ℕ) → 2 ^ 56 ≤ v → Legal v → Legal (v - 2 ^ 56)
legal-elements v h l = legal-element 1024 v h ∙ l

elements-same : (t u : ArgType) (b : Bool) → is_primitive t ≡ true → is_primitive u ≡ true → same_type t u ≡ elements_assignable t u b
unfolding is_primitive elements_assignable
elements-same (Primitive k) (Primitive l) b g h = refl
elements-same (Primitive k) (Object c) b g h = never (sym h)
elements-same (Primitive k) (Array u) b g h = never (sym h)
elements-same (Primitive k) (Unknown cs) b g h = never (sym h)
elements-same (Object c) u b g h = never (sym g)
elements-same (Array t) u b g h = never (sym g)
elements-same (Unknown cs) u b g h = never (sym g)

elements-left : (t u : ArgType) (b : Bool) → is_primitive t ≡ true → is_primitive u ≡ false → false ≡ elements_assignable t u b
unfolding is_primitive elements_assignable
elements-left (Primitive k) (Primitive l) b g h = never h
elements-left (Primitive k) (Object c) b g h = refl
elements-left (Primitive k) (Array u) b g h = refl
elements-left (Primitive k) (Unknown cs) b g h = refl
elements-left (Object c) u b g h = never (sym g)
elements-left (Array t) u b g h = never (sym g)
elements-left (Unknown cs) u b g h = never (sym g)

elements-right : (t u : ArgType) (b : Bool) → is_primitive t ≡ false → is_primitive u ≡ true → false ≡ elements_assignable t u b
unfolding is_primitive elements_assignable
elements-right (Primitive k) (Primitive l) b g h = never g
elements-right (Object c) (Primitive l) b g h = refl
elements-right (Array t) (Primitive l) b g h = refl
elements-right (Unknown cs) (Primitive l) b g h = refl
elements-right t (Object c) b g h = never (sym h)
elements-right t (Array u) b g h = never (sym h)
elements-right t (Unknown cs) b g h = never (sym h)

elements-whole : (t u : ArgType) (b : Bool) → is_primitive t ≡ false → is_primitive u ≡ false → b ≡ elements_assignable t u b
unfolding is_primitive elements_assignable
elements-whole (Primitive k) u b g h = never g
elements-whole (Object c) (Primitive l) b g h = never h
elements-whole (Object c) (Object d) b g h = refl
elements-whole (Object c) (Array u) b g h = refl
elements-whole (Object c) (Unknown cs) b g h = refl
elements-whole (Array t) (Primitive l) b g h = never h
elements-whole (Array t) (Object d) b g h = refl
elements-whole (Array t) (Array u) b g h = refl
elements-whole (Array t) (Unknown cs) b g h = refl
elements-whole (Unknown cs) (Primitive l) b g h = never h
elements-whole (Unknown cs) (Object d) b g h = refl
elements-whole (Unknown cs) (Array u) b g h = refl
elements-whole (Unknown cs) (Unknown ds) b g h = refl

-- the array rule on words
module _ (w : World) (v e : ℕ) (g : 2 ^ 56 ≤ v) (h : 2 ^ 56 ≤ e) where
  to-elements : assignable_apart w (type_of v) (type_of e)
      ≡ elements_assignable (type_of (v - 2 ^ 56)) (type_of (e - 2 ^ 56)) (is_assignable w (type_of (v - 2 ^ 56)) (type_of (e - 2 ^ 56)))
  unfolding assignable_apart is_assignable
  to-elements = ap₂ (assignable_apart w) (type-array v g) (type-array e h)

  whole : Bool
  whole = is_assignable w (type_of (v - 2 ^ 56)) (type_of (e - 2 ^ 56))

  pub rule-same : Legal v → Legal e → is_primitive (type_of (v - 2 ^ 56)) ≡ true → is_primitive (type_of (e - 2 ^ 56)) ≡ true
      → eqb (v - 2 ^ 56) (e - 2 ^ 56) ≡ assignable_apart w (type_of v) (type_of e)
  unfolding whole
  rule-same k l p q =
      same-words 1024 (v - 2 ^ 56) (e - 2 ^ 56) (legal-elements v g k) (legal-elements e h l)
      ∙ elements-same (type_of (v - 2 ^ 56)) (type_of (e - 2 ^ 56)) whole p q
      ∙ sym to-elements

  pub rule-left : is_primitive (type_of (v - 2 ^ 56)) ≡ true → is_primitive (type_of (e - 2 ^ 56)) ≡ false → false ≡ assignable_apart w (type_of v) (type_of e)
  unfolding whole
  rule-left p q = elements-left (type_of (v - 2 ^ 56)) (type_of (e - 2 ^ 56)) whole p q ∙ sym to-elements

  pub rule-right : is_primitive (type_of (v - 2 ^ 56)) ≡ false → is_primitive (type_of (e - 2 ^ 56)) ≡ true → false ≡ assignable_apart w (type_of v) (type_of e)
  unfolding whole
  rule-right p q = elements-right (type_of (v - 2 ^ 56)) (type_of (e - 2 ^ 56)) whole p q ∙ sym to-elements

  pub rule-whole : is_primitive (type_of (v - 2 ^ 56)) ≡ false → is_primitive (type_of (e - 2 ^ 56)) ≡ false
      → is_assignable w (type_of (v - 2 ^ 56)) (type_of (e - 2 ^ 56)) ≡ assignable_apart w (type_of v) (type_of e)
  unfolding whole
  rule-whole p q = elements-whole (type_of (v - 2 ^ 56)) (type_of (e - 2 ^ 56)) whole p q ∙ sym to-elements

-- ---- the whole question

module _ (w : World) (v e : ℕ) where
  pub equal-words : v ≡ e → true ≡ is_assignable w (type_of v) (type_of e)
  unfolding is_assignable
  equal-words p =
      sym (ap (λ (b : Bool). b || assignable_apart w (type_of v) (type_of e)) (ap (λ (x : ℕ). same_type (type_of v) (type_of x)) (sym p) ∙ same-refl (type_of v)))

  pub other-words : Legal v → Legal e → (v ≡ e → ⊥) → assignable_apart w (type_of v) (type_of e) ≡ is_assignable w (type_of v) (type_of e)
  unfolding is_assignable
  other-words g h p =
      sym (ap (λ (b : Bool). b || assignable_apart w (type_of v) (type_of e)) (sym (same-words 1024 v e g h) ∙ ne_eqb v e p))
