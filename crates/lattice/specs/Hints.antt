-- HINTS AND THE MOST SPECIFIC UPPER BOUND: a hint is concrete, a concrete type is its own hint, and the most specific upper bound
-- is the least of the hints of the upper bounds that are assignable to them all. Cycles and parents of Object included.
use Rattle.std.specs.Prelude.{◌≡◌, Bool, ◌&&◌, ◌⊎◌, ◌↔◌, ℕ, eqb}
use Rattle.std.proofs.Math.Path.{refl, ap}
use Rattle.std.proofs.Common.{sym, ◌∙◌, subst, inl, inr, arith, eqb-true}
use Rattle.std.proofs.Math.Bool.{true, false, cond, false≢true}
use mathlib.Core.List.Memᴰ
use mathlib.Core.List.{List, [], ◌∷◌, Memᴰ}
use Rattle.std.proofs.Math.Logic.{⊎_elim}
use Rattle.std.proofs.Math.Option.{Option, some, none}
use Rattle.order.specs.Compare.{flip}
use Rattle.order.specs.Laws.{less-not-greater, equal-not-greater}
use Rattle.std.specs.declared.cmp.Ordering.{Ordering}
use Rattle.std.specs.declared.cmp.Ordering.TheVariants.{Less, Equal, Greater}
use Rattle.ty.specs.Types.{ArgType, Primitive, Object, Array, Unknown, compare, is_concrete, hint_of_list, concrete_hint, ObjectCategory, ArrayCategory}
use Rattle.ty.specs.Order.{compare-same, compare-trans, compare-swap, compare-equal}
use Rattle.lattice.specs.Lattice.{World, is_assignable, assignable_to_all, lesser, candidate, least_hint, most_specific_upper}

none-some : (u : ArgType) → ◌≡◌ {A = Option ArgType} none (some u) → ⊥
none-some u h = let z : ◌≡◌ {A = ℕ} 0 1 = cc in omega arith

-- ---- hints

-- what is shown of a concrete type with itself, of Unknown[Object] with Object and of Unknown[c] with its primitive is shown of a type with its hint
pub hint-by : (P : ArgType → ArgType → Type 0) (object : ℕ)
    → ((t : ArgType) → is_concrete t ≡ true → P t t)
    → P (Unknown (ObjectCategory ∷ [])) (Object object)
    → ((c : ℕ) → is_concrete (Primitive c) ≡ true → P (Unknown (c ∷ [])) (Primitive c))
    → (t u : ArgType) → concrete_hint object t ≡ some u → P t u
unfolding concrete_hint hint_of_list is_concrete
hint-by P object own top one (Primitive k) u h = go (is_concrete (Primitive k)) refl h
  where
    go : (b : Bool) → is_concrete (Primitive k) ≡ b → cond b (some (Primitive k)) none ≡ some u → P (Primitive k) u
    go true e q = subst (P (Primitive k)) (let r : Primitive k ≡ u = cc in r) (own (Primitive k) e)
    go false e q = absurd (none-some u q)
hint-by P object own top one (Object c) u h = subst (P (Object c)) (let r : Object c ≡ u = cc in r) (own (Object c) refl)
hint-by P object own top one (Array t) u h = go (is_concrete t) refl h
  where
    go : (b : Bool) → is_concrete t ≡ b → cond b (some (Array t)) none ≡ some u → P (Array t) u
    go true e q = subst (P (Array t)) (let r : Array t ≡ u = cc in r) (own (Array t) e)
    go false e q = absurd (none-some u q)
hint-by P object own top one (Unknown []) u h = absurd (none-some u h)
hint-by P object own top one (Unknown (c ∷ [])) u h = go (eqb c ObjectCategory) refl (eqb c ArrayCategory) refl h
  where
    go : (a : Bool) → eqb c ObjectCategory ≡ a → (b : Bool) → eqb c ArrayCategory ≡ b
        → cond a (some (Object object)) (cond b none (some (Primitive c))) ≡ some u → P (Unknown (c ∷ [])) u
    go true e b f q =
        subst (λ (d : ℕ). P (Unknown (d ∷ [])) u) (sym (eqb-true c ObjectCategory e))
        (subst (P (Unknown (ObjectCategory ∷ []))) (let r : Object object ≡ u = cc in r) top)
    go false e true f q = absurd (none-some u q)
    go false e false f q = subst (P (Unknown (c ∷ []))) (let r : Primitive c ≡ u = cc in r) (one c (rw (e, f)))
hint-by P object own top one (Unknown (c ∷ d ∷ cs)) u h = absurd (none-some u h)

module _ (object : ℕ) where
  -- A HINT IS CONCRETE
  pub hint-concrete : (t u : ArgType) → concrete_hint object t ≡ some u → is_concrete u ≡ true
  unfolding is_concrete
  hint-concrete = hint-by (λ (t u : ArgType). is_concrete u ≡ true) object (λ t h. h) refl (λ c h. h)

  -- A CONCRETE TYPE IS ITS OWN HINT
  pub concrete-hint : (t : ArgType) → is_concrete t ≡ true → concrete_hint object t ≡ some t
  unfolding concrete_hint is_concrete
  concrete-hint (Primitive k) h = ap (λ (b : Bool). cond b (some (Primitive k)) none) h
  concrete-hint (Object c) h = refl
  concrete-hint (Array t) h = ap (λ (b : Bool). cond b (some (Array t)) none) h
  concrete-hint (Unknown cs) h = absurd (false≢true h)

-- ---- the lesser of two

-- the first unless it is the greater
abbrev picked : ArgType → ArgType → Ordering → Option ArgType
picked t v Less = some t
picked t v Equal = some t
picked t v Greater = some v

-- not the greater of two
abbrev pub AtMost : ArgType → ArgType → Type 0
AtMost t u = compare t u ≡ Greater → ⊥

most-self : (t : ArgType) → AtMost t t
most-self t h = equal-not-greater (sym (compare-same t) ∙ h)

lesser-picked : (t v : ArgType) → lesser t (some v) ≡ picked t v (compare t v)
lesser-picked t v = go (compare t v) refl
  where
    go : (c : Ordering) → compare t v ≡ c → lesser t (some v) ≡ picked t v c
    go Less e = rw e
    go Equal e = rw e
    go Greater e = rw e

-- of a candidate and what the others gave: one of the two, and at most each
Lesser : ArgType → Option ArgType → ArgType → Type 0
Lesser t o u = ((u ≡ t) ⊎ (o ≡ some u)) × AtMost u t × ((v : ArgType) → o ≡ some v → AtMost u v)

lesser-is : (t u : ArgType) (o : Option ArgType) → lesser t o ≡ some u → Lesser t o u
unfolding Lesser
lesser-is t u none h =
    subst (Lesser t none) (let r : t ≡ u = cc in r) (inl refl, most-self t, λ v q. absurd (none-some v q))
lesser-is t u (some v) h = go (compare t v) refl (sym (lesser-picked t v) ∙ h)
  where
    go : (c : Ordering) → compare t v ≡ c → picked t v c ≡ some u → Lesser t (some v) u
    go Less e q =
        subst (Lesser t (some v)) (let r : t ≡ u = cc in r)
        (inl refl, most-self t, λ x f k. less-not-greater (sym e ∙ ap (compare t) (let r : v ≡ x = cc in r) ∙ k))
    go Equal e q =
        subst (Lesser t (some v)) (let r : t ≡ u = cc in r)
        (inl refl, most-self t, λ x f k. equal-not-greater (sym e ∙ ap (compare t) (let r : v ≡ x = cc in r) ∙ k))
    go Greater e q =
        subst (Lesser t (some v)) (let r : v ≡ u = cc in r)
        (inr refl, λ k. less-not-greater (ap flip (sym e) ∙ sym (compare-swap t v) ∙ k), λ x f k. most-self v (ap (compare v) (let r : v ≡ x = cc in r) ∙ k))

lesser-some : (t : ArgType) (o : Option ArgType) → lesser t o ≡ none → ⊥
lesser-some t none h = none-some t (sym h)
lesser-some t (some v) h = go (compare t v) (sym (lesser-picked t v) ∙ h)
  where
    go : (c : Ordering) → picked t v c ≡ none → ⊥
    go Less q = none-some t (sym q)
    go Equal q = none-some t (sym q)
    go Greater q = none-some v (sym q)

most-trans : (t u v : ArgType) → AtMost t u → AtMost u v → AtMost t v
most-trans t u v p q = go (compare t u) refl (compare u v) refl
  where
    go : (a : Ordering) → compare t u ≡ a → (b : Ordering) → compare u v ≡ b → AtMost t v
    go Less e Less f k = less-not-greater (sym (compare-trans t u v e f) ∙ k)
    go Less e Equal f k = p (ap (compare t) (compare-equal u v f) ∙ k)
    go Less e Greater f k = q f
    go Equal e b f k = q (ap (λ (x : ArgType). compare x v) (sym (compare-equal t u e)) ∙ k)
    go Greater e b f k = p e

-- ---- the most specific upper bound

module _ (w : World) where
  -- assignable to a whole list
  pub all-exactly : (t : ArgType) (us : List ArgType) → (assignable_to_all w t us ≡ true) ↔ ((u : ArgType) → Memᴰ u us → is_assignable w t u ≡ true)
  unfolding assignable_to_all
  all-exactly t [] = (λ h u m. absurd (Memᴰ.not-nil m), λ f. refl)
  all-exactly t (v ∷ us) = (
    λ h u m. each (is_assignable w t v) refl h (all-exactly t us).0 u (Memᴰ.cases_cons m),
    λ f. whole (f v (Memᴰ.head refl)) ((all-exactly t us).1 (λ u m. f u (Memᴰ.tail m))),
  )
    where
      each : (b : Bool) → is_assignable w t v ≡ b → (b && assignable_to_all w t us) ≡ true
          → (assignable_to_all w t us ≡ true → (u : ArgType) → Memᴰ u us → is_assignable w t u ≡ true)
          → (u : ArgType) → (u ≡ v) ⊎ Memᴰ u us → is_assignable w t u ≡ true
      each true e h ih u (inl q) = ap (is_assignable w t) q ∙ e
      each true e h ih u (inr m) = ih h u m
      each false e h ih u m = absurd (false≢true h)

      whole : is_assignable w t v ≡ true → assignable_to_all w t us ≡ true → (is_assignable w t v && assignable_to_all w t us) ≡ true
      whole p q = rw (p, q)

  -- a member's hint that is assignable to all upper bounds
  abbrev pub Candidate : List ArgType → List ArgType → ArgType → Type 0
  Candidate upper ts u = (t : ArgType) × Memᴰ t ts × (concrete_hint w.object t ≡ some u) × (assignable_to_all w u upper ≡ true)

  -- a candidate of a list is the first's or one of the rest
  module _ (upper : List ArgType) (t : ArgType) (ts : List ArgType) (v : ArgType) where
    later : Candidate upper ts v → Candidate upper (t ∷ ts) v
    later c = (c.0, Memᴰ.tail c.1, c.2, c.3)

    split : Candidate upper (t ∷ ts) v → (concrete_hint w.object t ≡ some v) ⊎ Candidate upper ts v
    split c = ⊎_elim (λ e. inl (ap (concrete_hint w.object) (sym e) ∙ c.2)) (λ m. inr (c.0, m, c.2, c.3)) (Memᴰ.cases_cons c.1)

  -- none of the list is a candidate
  abbrev None : List ArgType → List ArgType → Type 0
  None upper ts = (v : ArgType) → Candidate upper ts v → ⊥

  -- a candidate, and at most every other
  abbrev pub Least : List ArgType → List ArgType → ArgType → Type 0
  Least upper ts u = Candidate upper ts u × ((v : ArgType) → Candidate upper ts v → AtMost u v)

  least-none : (upper ts : List ArgType) → least_hint w upper ts ≡ none → None upper ts
  unfolding least_hint
  least-none upper [] h v c = Memᴰ.not-nil c.1
  least-none upper (t ∷ ts) h v c = go (concrete_hint w.object t) refl h (λ q. least-none upper ts q v)
    where
      go : (o : Option ArgType) → concrete_hint w.object t ≡ o → candidate w upper o (least_hint w upper ts) ≡ none
          → (least_hint w upper ts ≡ none → Candidate upper ts v → ⊥) → ⊥
      go none e q ih = ⊎_elim (λ f. none-some v (sym e ∙ f)) (ih q) (split upper t ts v c)
      go (some x) e q ih = which (assignable_to_all w x upper) refl q
        where
          which : (b : Bool) → assignable_to_all w x upper ≡ b → cond b (lesser x (least_hint w upper ts)) (least_hint w upper ts) ≡ none → ⊥
          which true a r = lesser-some x (least_hint w upper ts) r
          which false a r =
              ⊎_elim (λ f. false≢true (sym a ∙ ap (λ (y : ArgType). assignable_to_all w y upper) (let z : x ≡ v = cc in z) ∙ c.3)) (ih r) (split upper t ts v c)

  least-is : (upper ts : List ArgType) (u : ArgType) → least_hint w upper ts ≡ some u → Least upper ts u
  unfolding least_hint Lesser
  least-is upper [] u h = absurd (none-some u h)
  least-is upper (t ∷ ts) u h = go (concrete_hint w.object t) refl h (least-is upper ts)
    where
      go : (o : Option ArgType) → concrete_hint w.object t ≡ o → candidate w upper o (least_hint w upper ts) ≡ some u
          → ((x : ArgType) → least_hint w upper ts ≡ some x → Least upper ts x) → Least upper (t ∷ ts) u
      go none e q ih = (later upper t ts u (ih u q).0, λ v c. ⊎_elim (λ f. absurd (none-some v (sym e ∙ f))) ((ih u q).1 v) (split upper t ts v c))
      go (some x) e q ih = which (assignable_to_all w x upper) refl q
        where
          most : (o : Option ArgType) → least_hint w upper ts ≡ o → ((y : ArgType) → o ≡ some y → AtMost u y) → (v : ArgType) → Candidate upper ts v → AtMost u v
          most none n d v c = absurd (least-none upper ts n v c)
          most (some y) n d v c = most-trans u y v (d y refl) ((ih y n).1 v c)

          which : (b : Bool) → assignable_to_all w x upper ≡ b → cond b (lesser x (least_hint w upper ts)) (least_hint w upper ts) ≡ some u → Least upper (t ∷ ts) u
          which true a r =
              let d = lesser-is x u (least_hint w upper ts) r in (
                ⊎_elim (λ f. (t, Memᴰ.head refl, e ∙ ap some (sym f), ap (λ (y : ArgType). assignable_to_all w y upper) f ∙ a))
                    (λ n. later upper t ts u (ih u n).0) d.0,
                λ v c. ⊎_elim (λ f. subst (AtMost u) (let z : x ≡ v = cc in z) d.1) (most (least_hint w upper ts) refl d.2 v) (split upper t ts v c),
              )
          which false a r = (
            later upper t ts u (ih u r).0,
            λ v c. ⊎_elim (λ f. absurd (false≢true (sym a ∙ ap (λ (y : ArgType). assignable_to_all w y upper) (let z : x ≡ v = cc in z) ∙ c.3)))
                ((ih u r).1 v) (split upper t ts v c),
          )

  module _ (upper : List ArgType) where
    -- ITS ANSWER is a candidate, and at most every other
    pub specific-least : (u : ArgType) → most_specific_upper w upper ≡ some u → Least upper upper u
    unfolding most_specific_upper
    specific-least = least-is upper upper

    -- NO ANSWER only if there is no candidate
    pub specific-none : most_specific_upper w upper ≡ none → (u : ArgType) → Candidate upper upper u → ⊥
    unfolding most_specific_upper
    specific-none = least-none upper upper

    module _ (u : ArgType) (h : most_specific_upper w upper ≡ some u) where
      -- a hint of one of the upper bounds
      pub specific-hint : (t : ArgType) × Memᴰ t upper × (concrete_hint w.object t ≡ some u)
      specific-hint = let c = (specific-least u h).0 in (c.0, c.1, c.2)

      -- so concrete
      pub specific-concrete : is_concrete u ≡ true
      specific-concrete = let c = specific-hint in hint-concrete w.object c.0 u c.2

      -- and assignable to every upper bound
      pub specific-assignable : (t : ArgType) → Memᴰ t upper → is_assignable w u t ≡ true
      specific-assignable = (all-exactly u upper).0 (specific-least u h).0.3
