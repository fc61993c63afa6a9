-- The join by what its two types are, one law for each case that code on words meets.
use Rattle.std.specs.Prelude.{◌≡◌, Bool, true, false, cond, ◌||◌, List, [], ◌∷◌, ℕ, zero, suc, eqb}
use Rattle.std.proofs.Math.Path.{refl, ap}
use Rattle.std.proofs.Common.{sym, ap₂, ◌∙◌, true≢false}
use Rattle.std.proofs.lemmas.Bool.{false≢true}
use Rattle.std.proofs.Math.Bool.{or-true}
use Rattle.order.specs.Compare.{is_equal}
use Rattle.order.specs.Lists.{elem}
use Rattle.std.specs.declared.cmp.Ordering.{Ordering}
use Rattle.std.specs.declared.cmp.Ordering.TheVariants.{Less, Equal, Greater}
use Rattle.ty.specs.Types.{ArgType, Primitive, Object, Array, Unknown, compare, categories, is_known, is_primitive, is_array}
use Rattle.ty.specs.Order.{compare-same, compare-equal}
use Rattle.view.specs.View.{supertype}
use Rattle.lattice.specs.Lattice.{World, same_type, unknown_accepts, in_either, unknown_union, join_primitive, in_both, or_full, join_known, class_or, join_elements, join_array_class, join_apart, join}

-- ---- equal, or not

pub join-same : (w : World) (t u : ArgType) → t ≡ u → join w t u ≡ t
unfolding join same_type
join-same w t u e = ap (λ (o : Ordering). cond (is_equal o) t (join_apart w t u)) (ap (compare t) (sym e) ∙ compare-same t)

apart : (t u : ArgType) → (t ≡ u → ⊥) → same_type t u ≡ false
unfolding same_type
apart t u n = go (compare t u) refl
  where
    go : (o : Ordering) → compare t u ≡ o → is_equal o ≡ false
    go Less e = refl
    go Equal e = absurd (n (compare-equal t u e))
    go Greater e = refl

pub join-apart : (w : World) (t u : ArgType) → (t ≡ u → ⊥) → join w t u ≡ join_apart w t u
unfolding join
join-apart w t u n = ap (λ (b : Bool). cond b t (join_apart w t u)) (apart t u n)

-- ---- the union, whichever comes first

or-swap : (a b : Bool) → (a || b) ≡ (b || a)
or-swap true true = refl
or-swap true false = refl
or-swap false true = refl
or-swap false false = refl

ascending-swap : (cs ds : List ℕ) (i n : ℕ) → in_either cs ds i n ≡ in_either ds cs i n
unfolding in_either
ascending-swap cs ds i zero = refl
ascending-swap cs ds i (suc n) = ap₂ (λ (b : Bool) (l : List ℕ). cond b (i ∷ l) l) (or-swap (elem i cs) (elem i ds)) (ascending-swap cs ds (suc i) n)

pub union-swap : (t u : ArgType) → unknown_union t u ≡ unknown_union u t
unfolding unknown_union
union-swap t u = ap Unknown (ascending-swap (categories t) (categories u) 0 11)

-- it reads the categories alone
pub union-categories : (t u v : ArgType) → categories u ≡ categories v → unknown_union t u ≡ unknown_union t v
unfolding unknown_union
union-categories t u v e = ap (λ (ds : List ℕ). Unknown (in_either (categories t) ds 0 11)) e

-- ---- with an Unknown

abbrev front : List ℕ → ℕ
front [] = 0
front (c ∷ cs) = c

-- a known type has one category, which an Unknown accepts or does not
pub accepts-category : (cs : List ℕ) (t : ArgType) (k : ℕ) → is_known t ≡ true → categories t ≡ k ∷ [] → unknown_accepts cs t ≡ elem k cs
unfolding unknown_accepts is_known categories
accepts-category cs (Primitive j) k h e = ap (λ (l : List ℕ). elem (front l) cs) e
accepts-category cs (Object c) k h e = ap (λ (l : List ℕ). elem (front l) cs) e
accepts-category cs (Array t) k h e = ap (λ (l : List ℕ). elem (front l) cs) e
accepts-category cs (Unknown ds) k h e = absurd (false≢true h)

pub known-accepted : (t : ArgType) (cs : List ℕ) → unknown_accepts cs t ≡ true → join_known t cs ≡ t
unfolding join_known
known-accepted t cs e = rw e

pub known-united : (t u : ArgType) → unknown_accepts (categories u) t ≡ false → join_known t (categories u) ≡ unknown_union t u
unfolding join_known categories
known-united t u e = rw e (union-categories t (Unknown (categories u)) u refl)

module _ (w : World) where
  pub apart-unknowns : (t u : ArgType) → is_known t ≡ false → is_known u ≡ false → join_apart w t u ≡ or_full (in_both (categories t) (categories u))
  unfolding join_apart is_known categories
  apart-unknowns (Unknown cs) (Unknown ds) h k = refl
  apart-unknowns (Primitive j) u h k = absurd (true≢false h)
  apart-unknowns (Object c) u h k = absurd (true≢false h)
  apart-unknowns (Array t) u h k = absurd (true≢false h)
  apart-unknowns (Unknown cs) (Primitive j) h k = absurd (true≢false k)
  apart-unknowns (Unknown cs) (Object d) h k = absurd (true≢false k)
  apart-unknowns (Unknown cs) (Array u) h k = absurd (true≢false k)

  pub apart-right-unknown : (t u : ArgType) → is_known t ≡ true → is_known u ≡ false → join_apart w t u ≡ join_known t (categories u)
  unfolding join_apart is_known categories
  apart-right-unknown (Primitive j) (Unknown ds) h k = refl
  apart-right-unknown (Object c) (Unknown ds) h k = refl
  apart-right-unknown (Array t) (Unknown ds) h k = refl
  apart-right-unknown (Unknown cs) (Unknown ds) h k = absurd (false≢true h)
  apart-right-unknown t (Primitive j) h k = absurd (true≢false k)
  apart-right-unknown t (Object d) h k = absurd (true≢false k)
  apart-right-unknown t (Array u) h k = absurd (true≢false k)

  pub apart-left-unknown : (t u : ArgType) → is_known t ≡ false → is_known u ≡ true → join_apart w t u ≡ join_known u (categories t)
  unfolding join_apart is_known categories
  apart-left-unknown (Unknown cs) (Primitive j) h k = refl
  apart-left-unknown (Unknown cs) (Object d) h k = refl
  apart-left-unknown (Unknown cs) (Array u) h k = refl
  apart-left-unknown (Unknown cs) (Unknown ds) h k = absurd (false≢true k)
  apart-left-unknown (Primitive j) u h k = absurd (true≢false h)
  apart-left-unknown (Object c) u h k = absurd (true≢false h)
  apart-left-unknown (Array t) u h k = absurd (true≢false h)

-- ---- an array and a known type that is none

-- Object where that is Object, else the union: Cloneable and Serializable are like any class
unfoldable pub join_array_other : ℕ → ArgType → ArgType → ArgType
join_array_other object array (Primitive k) = unknown_union array (Primitive k)
join_array_other object array (Object c) = cond (eqb c object) (Object object) (unknown_union array (Object c))
join_array_other object array (Array t) = unknown_union array (Array t)
join_array_other object array (Unknown cs) = unknown_union array (Unknown cs)

module _ (w : World) where
  pub apart-left-array : (t u : ArgType) → is_array t ≡ true → is_known u ≡ true → is_array u ≡ false → join_apart w t u ≡ join_array_other w.object t u
  unfolding join_apart is_array is_known join_array_other join_array_class
  apart-left-array (Array t) (Primitive k) h a b = refl
  apart-left-array (Array t) (Object d) h a b = refl
  apart-left-array (Array t) (Array u) h a b = absurd (true≢false b)
  apart-left-array (Array t) (Unknown ds) h a b = absurd (false≢true a)
  apart-left-array (Primitive j) u h a b = absurd (false≢true h)
  apart-left-array (Object c) u h a b = absurd (false≢true h)
  apart-left-array (Unknown cs) u h a b = absurd (false≢true h)

  pub apart-right-array : (t u : ArgType) → is_array u ≡ true → is_known t ≡ true → is_array t ≡ false → join_apart w t u ≡ join_array_other w.object u t
  unfolding join_apart is_array is_known join_array_other join_array_class
  apart-right-array (Primitive k) (Array u) h a b = union-swap (Primitive k) (Array u)
  apart-right-array (Object d) (Array u) h a b =
      ap (cond (eqb d w.object) (Object w.object)) (union-swap (Object d) (Array u))
  apart-right-array (Array t) (Array u) h a b = absurd (true≢false b)
  apart-right-array (Unknown ds) (Array u) h a b = absurd (false≢true a)
  apart-right-array t (Primitive j) h a b = absurd (false≢true h)
  apart-right-array t (Object c) h a b = absurd (false≢true h)
  apart-right-array t (Unknown cs) h a b = absurd (false≢true h)

  -- ---- two arrays

  pub arrays-left : (t u : ArgType) → is_primitive t ≡ true → join_apart w (Array t) (Array u) ≡ Object w.object
  unfolding join_apart join_elements
  arrays-left t u h = rw h

  pub arrays-right : (t u : ArgType) → is_primitive u ≡ true → join_apart w (Array t) (Array u) ≡ Object w.object
  unfolding join_apart join_elements
  arrays-right t u h = rw (h, or-true (is_primitive t))

  -- the whole question one dimension lower
  pub arrays-both : (t u : ArgType) → is_primitive t ≡ false → is_primitive u ≡ false → join_apart w (Array t) (Array u) ≡ Array (join w t u)
  unfolding join_apart join_elements join
  arrays-both t u h g = rw (h, g)

  -- ---- two known types that are no arrays

  pub apart-primitives : (left right : ℕ) → join_apart w (Primitive left) (Primitive right) ≡ join_primitive left right
  unfolding join_apart
  apart-primitives left right = refl

  pub apart-classes : (left right : ℕ) → join_apart w (Object left) (Object right) ≡ class_or w.object (w.supertype left right)
  unfolding join_apart
  apart-classes left right = refl

  pub apart-left-primitive : (left right : ℕ) → join_apart w (Primitive left) (Object right) ≡ unknown_union (Primitive left) (Object right)
  unfolding join_apart
  apart-left-primitive left right = refl

  pub apart-right-primitive : (left right : ℕ) → join_apart w (Object left) (Primitive right) ≡ unknown_union (Object left) (Primitive right)
  unfolding join_apart
  apart-right-primitive left right = refl
