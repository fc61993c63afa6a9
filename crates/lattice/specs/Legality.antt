-- RESULTS ARE LEGAL: what a join, a hint and the most specific upper bound give of legal types over a lawful world is a legal type,
-- with no more dimensions than the deepest of them. Cycles and parents of Object included.
use Rattle.std.proofs.Math.Path.{◌≡◌, refl, subst}
use Rattle.std.proofs.Common.{sym, ap, ◌∙◌}
use Rattle.std.specs.Prelude.{Bool, cond, ◌||◌, eqb, leb}
use Rattle.std.proofs.Math.Bool.{true, false, true≢false}
use mathlib.Core.List.{List, [], ◌∷◌, Memᴰ}
use Rattle.std.proofs.Math.Option.{Option, some, none}
use Prim.Native.Nat.{ℕ, suc, ◌≤◌, ◌<◌, max}
use native.Mathlib.Omega.{arith}
use borrow.Author.Tests.{ltb-true, lt-ltb, leb-true, le-leb}
use Rattle.order.specs.Truth.{and-left, and-right, and-both}
use Rattle.ty.specs.Types.{ArgType, Primitive, Object, Array, Unknown, is_primitive, depth, compare, concrete_hint}
use Rattle.ty.specs.Words.{legal_at_base, legal_type}
use Rattle.ty.specs.Distinct.{distinct-first}
use Rattle.view.specs.View.{supertype}
use Rattle.lattice.specs.Lattice.{World, Lawful, same_type, unknown_accepts, unknown_union, in_both, or_full, join_known, class_or, join_elements, join_array_class, join_apart, join, join_from, join_all, most_specific_upper}
use Rattle.lattice.specs.Hints.{hint-by, specific-hint}
use Rattle.lattice.specs.References.{same-exactly}
use Rattle.lattice.specs.Fits.{by-cond, primitive-by, in_both-distinct, Fits, class-fits, union-fits, primitive-fits, known-fits, full-fits, elements-fit}

module _ (w : World) (g : Lawful w) where
  abbrev names : ℕ
  names = w.names

  array-class-fits : (t u : ArgType) (c : ℕ) → Fits names (join_array_class w t u c)
  unfolding join_array_class
  array-class-fits t u c = by-cond (Fits names) (eqb c w.object) _ _ (class-fits names w.object g.object-in) (union-fits names t u)

  classes-fit : (c d : ℕ) → c < names → d < names → Fits names (class_or w.object (w.supertype c d))
  unfolding legal_at_base
  classes-fit c d l r = go (w.supertype c d) refl
    where
      go : (o : Option ℕ) → w.supertype c d ≡ o → legal_at_base names (class_or w.object o) ≡ true
      go none e = lt-ltb w.object names g.object-in
      go (some s) e = lt-ltb s names (g.above c d s l r e).0

  apart-fits : (t u : ArgType) → same_type t u ≡ false → Fits names t → Fits names u → Fits names (join_apart w t u)
  unfolding join_apart legal_at_base same_type compare
  apart-fits (Primitive j) (Primitive k) n h i =
      primitive-fits names j k (leb-true j 10 h) (leb-true k 10 i) (λ e. true≢false (sym ((same-exactly (Primitive j) (Primitive k)).1 (ap Primitive e)) ∙ n))
  apart-fits (Primitive j) (Object d) n h i = union-fits names (Primitive j) (Object d)
  apart-fits (Primitive j) (Array u) n h i = union-fits names (Primitive j) (Array u)
  apart-fits (Primitive j) (Unknown ds) n h i = known-fits names (Primitive j) ds h
  apart-fits (Object c) (Primitive k) n h i = union-fits names (Object c) (Primitive k)
  apart-fits (Object c) (Object d) n h i = classes-fit c d (ltb-true c names h) (ltb-true d names i)
  apart-fits (Object c) (Array u) n h i = array-class-fits (Object c) (Array u) c
  apart-fits (Object c) (Unknown ds) n h i = known-fits names (Object c) ds h
  apart-fits (Array t) (Primitive k) n h i = union-fits names (Array t) (Primitive k)
  apart-fits (Array t) (Object d) n h i = array-class-fits (Array t) (Object d) d
  apart-fits (Array t) (Array u) n h i =
      elements-fit names w.object t u _ g.object-in (subst (λ (b : Bool). Fits names (cond b t (join_apart w t u))) (sym n) (apart-fits t u n h i))
  apart-fits (Array t) (Unknown ds) n h i = known-fits names (Array t) ds h
  apart-fits (Unknown cs) (Primitive k) n h i = known-fits names (Primitive k) cs i
  apart-fits (Unknown cs) (Object d) n h i = known-fits names (Object d) cs i
  apart-fits (Unknown cs) (Array u) n h i = known-fits names (Array u) cs i
  apart-fits (Unknown cs) (Unknown ds) n h i = full-fits names (in_both cs ds) (in_both-distinct cs ds h)

  -- categories up to 10 and none twice in a list, classes that are names
  pub join-fits : (t u : ArgType) → legal_at_base names t ≡ true → legal_at_base names u ≡ true → legal_at_base names (join w t u) ≡ true
  unfolding join
  join-fits t u h i = go (same_type t u) refl
    where
      go : (b : Bool) → same_type t u ≡ b → legal_at_base names (cond b t (join_apart w t u)) ≡ true
      go true e = h
      go false e = apart-fits t u e h i

-- ---- dimensions

elements-depth : (object : ℕ) (t u whole : ArgType) → depth (join_elements object t u whole) ≤ suc (depth whole)
unfolding join_elements depth
elements-depth object t u whole =
    by-cond (λ (v : ArgType). depth v ≤ suc (depth whole)) (is_primitive t || is_primitive u) (Object object) (Array whole) (omega arith) (omega arith)

known-depth : (t : ArgType) (cs : List ℕ) → depth (join_known t cs) ≤ depth t
unfolding join_known unknown_union depth
known-depth t cs = by-cond (λ (u : ArgType). depth u ≤ depth t) (unknown_accepts cs t) t (unknown_union t (Unknown cs)) (omega arith) (omega arith)

full-depth : (cs : List ℕ) → depth (or_full cs) ≤ 0
unfolding depth
full-depth [] = omega arith
full-depth (c ∷ cs) = omega arith

module _ (w : World) where
  class-depth : (o : Option ℕ) → depth (class_or w.object o) ≤ 0
  unfolding depth
  class-depth none = omega arith
  class-depth (some c) = omega arith

  array-class-depth : (t u : ArgType) (c : ℕ) → depth (join_array_class w t u c) ≤ 0
  unfolding join_array_class unknown_union depth
  array-class-depth t u c = by-cond (λ (v : ArgType). depth v ≤ 0) (eqb c w.object) (Object w.object) (unknown_union t u) (omega arith) (omega arith)

  apart-depth : (t u : ArgType) → depth (join_apart w t u) ≤ max (depth t) (depth u)
  unfolding join_apart unknown_union depth
  apart-depth (Primitive j) (Primitive k) =
      primitive-by (λ (t : ArgType). depth t ≤ 0) j k (omega arith) (omega arith) (omega arith) (omega arith) (omega arith) (omega arith)
  apart-depth (Primitive j) (Object d) = omega arith
  apart-depth (Primitive j) (Array u) = omega arith
  apart-depth (Primitive j) (Unknown ds) = known-depth (Primitive j) ds
  apart-depth (Object c) (Primitive k) = omega arith
  apart-depth (Object c) (Object d) = class-depth (w.supertype c d)
  apart-depth (Object c) (Array u) = let q = array-class-depth (Object c) (Array u) c in omega arith
  apart-depth (Object c) (Unknown ds) = known-depth (Object c) ds
  apart-depth (Array t) (Primitive k) = omega arith
  apart-depth (Array t) (Object d) = let q = array-class-depth (Array t) (Object d) d in omega arith
  apart-depth (Array t) (Array u) =
      let p = by-cond (λ (v : ArgType). depth v ≤ max (depth t) (depth u)) (same_type t u) t (join_apart w t u) (omega arith) (apart-depth t u) in
      let q = elements-depth w.object t u (cond (same_type t u) t (join_apart w t u)) in
      omega arith
  apart-depth (Array t) (Unknown ds) = let q = known-depth (Array t) ds in omega arith
  apart-depth (Unknown cs) (Primitive k) = known-depth (Primitive k) cs
  apart-depth (Unknown cs) (Object d) = known-depth (Object d) cs
  apart-depth (Unknown cs) (Array u) = let q = known-depth (Array u) cs in omega arith
  apart-depth (Unknown cs) (Unknown ds) = full-depth (in_both cs ds)

  -- never past the larger
  pub join-depth : (t u : ArgType) → depth (join w t u) ≤ max (depth t) (depth u)
  unfolding join
  join-depth t u = by-cond (λ (v : ArgType). depth v ≤ max (depth t) (depth u)) (same_type t u) t (join_apart w t u) (omega arith) (apart-depth t u)

  pub join_from-depth : (n : ℕ) (t : ArgType) (ts : List ArgType) → depth t ≤ n → ((u : ArgType) → Memᴰ u ts → depth u ≤ n) → depth (join_from w t ts) ≤ n
  unfolding join_from
  join_from-depth n t [] h all = h
  join_from-depth n t (u ∷ ts) h all =
      join_from-depth n (join w t u) ts (let d = join-depth t u in let i = all u (Memᴰ.head refl) in omega arith) (λ v m. all v (Memᴰ.tail m))

pub hint-depth : (object : ℕ) (t u : ArgType) → concrete_hint object t ≡ some u → depth u ≤ depth t
unfolding depth
hint-depth object = hint-by (λ (t u : ArgType). depth u ≤ depth t) object (λ t c. omega arith) (omega arith) (λ c k. omega arith)

-- ---- both together

module _ (names : ℕ) (t : ArgType) where
  pub legal-depth : legal_type names t ≡ true → depth t ≤ 255
  unfolding legal_type
  legal-depth h = leb-true (depth t) 255 (and-left (leb (depth t) 255) (legal_at_base names t) h)

  pub legal-base : legal_type names t ≡ true → legal_at_base names t ≡ true
  unfolding legal_type
  legal-base h = and-right (leb (depth t) 255) (legal_at_base names t) h

  pub legal-both : depth t ≤ 255 → legal_at_base names t ≡ true → legal_type names t ≡ true
  unfolding legal_type
  legal-both l h = and-both (leb (depth t) 255) (legal_at_base names t) (le-leb (depth t) 255 l) h

module _ (w : World) (g : Lawful w) where
  pub join-legal : (t u : ArgType) → legal_type w.names t ≡ true → legal_type w.names u ≡ true → legal_type w.names (join w t u) ≡ true
  join-legal t u h i =
      let n = w.names in
      let d = join-depth w t u in
      let p = legal-depth n t h in
      let q = legal-depth n u i in
      legal-both n (join w t u) (omega arith) (join-fits w g t u (legal-base n t h) (legal-base n u i))

  -- ---- of a list: each member legal, so is the join

  pub join_from-legal : (t : ArgType) (ts : List ArgType) → legal_type w.names t ≡ true
      → ((u : ArgType) → Memᴰ u ts → legal_type w.names u ≡ true) → legal_type w.names (join_from w t ts) ≡ true
  unfolding join_from
  join_from-legal t [] h all = h
  join_from-legal t (u ∷ ts) h all = join_from-legal (join w t u) ts (join-legal t u h (all u (Memᴰ.head refl))) (λ v m. all v (Memᴰ.tail m))

  pub join_all-legal : (ts : List ArgType) (v : ArgType) → join_all w ts ≡ some v
      → ((u : ArgType) → Memᴰ u ts → legal_type w.names u ≡ true) → legal_type w.names v ≡ true
  unfolding join_all
  join_all-legal [] v h all = absurd (let z : ◌≡◌ {A = ℕ} 0 1 = cc in omega arith)
  join_all-legal (t ∷ ts) v h all =
      subst (λ (u : ArgType). legal_type w.names u ≡ true) (let r : join_from w t ts ≡ v = cc in r)
      (join_from-legal t ts (all t (Memᴰ.head refl)) (λ u m. all u (Memᴰ.tail m)))

  -- ---- hints

  pub hint-legal : (t u : ArgType) → concrete_hint w.object t ≡ some u → legal_type w.names t ≡ true → legal_type w.names u ≡ true
  unfolding depth legal_at_base
  hint-legal =
      let n = w.names in
      hint-by (λ (t u : ArgType). legal_type n t ≡ true → legal_type n u ≡ true) w.object
      (λ t c h. h)
      (λ h. legal-both n (Object w.object) (omega arith) (lt-ltb w.object n g.object-in))
      (λ c k h. legal-both n (Primitive c) (omega arith) (le-leb c 10 (distinct-first c [] (legal-base n (Unknown (c ∷ [])) h))))

  pub specific-legal : (upper : List ArgType) (u : ArgType) → most_specific_upper w upper ≡ some u
      → ((t : ArgType) → Memᴰ t upper → legal_type w.names t ≡ true) → legal_type w.names u ≡ true
  specific-legal upper u h all = let c = specific-hint w upper u h in hint-legal c.0 u c.2 (all c.0 c.1)
