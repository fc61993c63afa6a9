-- What is asked of candidates and bounds, one law for each case that the code meets.
use Rattle.std.specs.Prelude.{◌≡◌, refl, Bool, true, false, cond, not, ◌&&◌, ◌||◌, ℕ, suc, ◌+◌, ◌-◌, ◌≤◌, ◌<◌, length, drop, get_or}
use Rattle.std.proofs.Math.Path.{sym, ap}
use Rattle.std.proofs.Common.{◌∙◌, true≢false, add-one, drop_of_length-le, drop-cons, ne_eqb}
use mathlib.Core.List.{List, [], ◌∷◌, map}
use Rattle.std.proofs.Math.Option.{Option, some, none}
use native.Mathlib.Omega.{arith}
use Rattle.ty.specs.Types.{ArgType, Primitive, Object, Array, Unknown, categories, is_known, is_primitive, is_reference, is_wide}
use Rattle.ty.specs.Words.{Legal, type_of}
use Rattle.lattice.specs.Lattice.{World, same_type, unknown_accepts, is_assignable, producer_bound_compatible, same_register_category, observed_accepts, any_accepts, domain_accepts, assignable_to_all, lesser, candidate, least_hint}
use Rattle.lattice.specs.Same.{same-refl, same-words}

never : {P : Type 0} → true ≡ false → P
never q = absurd (true≢false q)

-- ---- producer_bound_compatible

module _ (w : World) (t u : ArgType) where
  pub compatible-references : (is_reference t && is_reference u) ≡ true → true ≡ producer_bound_compatible w t u
  unfolding producer_bound_compatible
  compatible-references h = sym (ap (λ (b : Bool). b || is_assignable w t u) h)

  pub compatible-other : (is_reference t && is_reference u) ≡ false → is_assignable w t u ≡ producer_bound_compatible w t u
  unfolding producer_bound_compatible
  compatible-other h = sym (ap (λ (b : Bool). b || is_assignable w t u) h)

-- ---- same_register_category

pub registers-references : (t u : ArgType) → (is_reference t && is_reference u) ≡ true → true ≡ same_register_category t u
unfolding is_primitive is_reference same_register_category
registers-references (Primitive k) u h = never (sym h)
registers-references (Object c) (Primitive l) h = never (sym h)
registers-references (Object c) (Object d) h = refl
registers-references (Object c) (Array u) h = refl
registers-references (Object c) (Unknown cs) h = never (sym h)
registers-references (Array t) (Primitive l) h = never (sym h)
registers-references (Array t) (Object d) h = refl
registers-references (Array t) (Array u) h = refl
registers-references (Array t) (Unknown cs) h = never (sym h)
registers-references (Unknown cs) u h = never (sym h)

registers-primitives : (t u : ArgType) → is_primitive t ≡ true → is_primitive u ≡ true → same_register_category t u ≡ cond (is_wide t) (is_wide u) (not (is_wide u))
unfolding is_primitive is_wide same_register_category
registers-primitives (Primitive k) (Primitive l) g h = refl
registers-primitives (Primitive k) (Object d) g h = never (sym h)
registers-primitives (Primitive k) (Array u) g h = never (sym h)
registers-primitives (Primitive k) (Unknown cs) g h = never (sym h)
registers-primitives (Object c) u g h = never (sym g)
registers-primitives (Array t) u g h = never (sym g)
registers-primitives (Unknown cs) u g h = never (sym g)

module _ (t u : ArgType) (g : is_primitive t ≡ true) (h : is_primitive u ≡ true) where
  pub registers-wide : is_wide t ≡ true → is_wide u ≡ same_register_category t u
  registers-wide e = sym (registers-primitives t u g h ∙ ap (λ (b : Bool). cond b (is_wide u) (not (is_wide u))) e)

  pub registers-narrow : is_wide t ≡ false → not (is_wide u) ≡ same_register_category t u
  registers-narrow e = sym (registers-primitives t u g h ∙ ap (λ (b : Bool). cond b (is_wide u) (not (is_wide u))) e)

pub registers-left : (t u : ArgType) → is_primitive t ≡ true → is_primitive u ≡ false → false ≡ same_register_category t u
unfolding is_primitive is_reference same_register_category
registers-left (Primitive k) (Primitive l) g h = never h
registers-left (Primitive k) (Object d) g h = refl
registers-left (Primitive k) (Array u) g h = refl
registers-left (Primitive k) (Unknown cs) g h = refl
registers-left (Object c) u g h = never (sym g)
registers-left (Array t) u g h = never (sym g)
registers-left (Unknown cs) u g h = never (sym g)

pub registers-other : (t u : ArgType) → is_primitive t ≡ false → (is_reference t && is_reference u) ≡ false → false ≡ same_register_category t u
unfolding is_primitive is_reference same_register_category
registers-other (Primitive k) u g h = never g
registers-other (Object c) (Primitive l) g h = refl
registers-other (Object c) (Object d) g h = never h
registers-other (Object c) (Array u) g h = never h
registers-other (Object c) (Unknown cs) g h = refl
registers-other (Array t) (Primitive l) g h = refl
registers-other (Array t) (Object d) g h = never h
registers-other (Array t) (Array u) g h = never h
registers-other (Array t) (Unknown cs) g h = refl
registers-other (Unknown cs) u g h = refl

-- ---- domain_accepts

observed-known : (t u : ArgType) → is_known t ≡ true → observed_accepts t u ≡ (same_type t u || same_register_category t u)
unfolding is_known observed_accepts
observed-known (Primitive k) u h = refl
observed-known (Object c) u h = refl
observed-known (Array t) u h = refl
observed-known (Unknown cs) u h = never (sym h)

module _ (v e : ℕ) (g : is_known (type_of v) ≡ true) where
  pub observed-equal : v ≡ e → true ≡ observed_accepts (type_of v) (type_of e)
  observed-equal q =
      sym (observed-known (type_of v) (type_of e) g
      ∙ ap (λ (b : Bool). b || same_register_category (type_of v) (type_of e)) (ap (λ (x : ℕ). same_type (type_of v) (type_of x)) (sym q) ∙ same-refl (type_of v)))

  pub observed-other : Legal v → Legal e → (v ≡ e → ⊥) → same_register_category (type_of v) (type_of e) ≡ observed_accepts (type_of v) (type_of e)
  observed-other k l q =
      sym (observed-known (type_of v) (type_of e) g
      ∙ ap (λ (b : Bool). b || same_register_category (type_of v) (type_of e)) (sym (same-words 1024 v e k l) ∙ ne_eqb v e q))

pub observed-unknown : (t u : ArgType) → is_known t ≡ false → unknown_accepts (categories t) u ≡ observed_accepts t u
unfolding is_known categories observed_accepts
observed-unknown (Primitive k) u h = never h
observed-unknown (Object c) u h = never h
observed-unknown (Array t) u h = never h
observed-unknown (Unknown cs) u h = refl

pub domain-none : (ws : List ℕ) (u : ArgType) → length ws ≡ 0 → true ≡ domain_accepts (map type_of ws) u
unfolding domain_accepts
domain-none [] u h = refl
domain-none (x ∷ ws) u h = absurd (omega arith)

pub domain-some : (ws : List ℕ) (u : ArgType) → (length ws ≡ 0 → ⊥) → any_accepts (map type_of ws) u ≡ domain_accepts (map type_of ws) u
unfolding domain_accepts
domain-some [] u h = absurd (h refl)
domain-some (x ∷ ws) u h = refl

-- ---- a list of words from a place on

-- the types of the words from the place i on
abbrev pub types_from : ℕ → List ℕ → List ArgType
types_from i ws = map type_of (drop i ws)

module _ (ws : List ℕ) (i : ℕ) where
  types-step : i < length ws → types_from i ws ≡ type_of (get_or ws i 0) ∷ types_from (i + 1) ws
  types-step h =
      ap (map type_of) (drop-cons ws i 0 h) ∙ ap (λ (k : ℕ). type_of (get_or ws i 0) ∷ map type_of (drop k ws)) (sym (add-one i))

  pub types-end : length ws ≤ i → types_from i ws ≡ []
  types-end h = ap (map type_of) (drop_of_length-le ws h)

  -- the types from the place before on
  pub types-before : 0 < i → i ≤ length ws → types_from (i - 1) ws ≡ type_of (get_or ws (i - 1) 0) ∷ types_from i ws
  types-before g h =
      ap (map type_of) (drop-cons ws (i - 1) 0 (omega arith))
      ∙ ap (λ (k : ℕ). type_of (get_or ws (i - 1) 0) ∷ map type_of (drop k ws)) (let q : suc (i - 1) ≡ i = omega arith in q)

  pub any-here : (u : ArgType) → i < length ws → observed_accepts (type_of (get_or ws i 0)) u ≡ true → any_accepts (types_from i ws) u ≡ true
  unfolding any_accepts
  any-here u h e = ap (λ (ts : List ArgType). any_accepts ts u) (types-step h) ∙ ap (λ (b : Bool). b || any_accepts (types_from (i + 1) ws) u) e

  pub any-later : (u : ArgType) → i < length ws → observed_accepts (type_of (get_or ws i 0)) u ≡ false → any_accepts (types_from i ws) u ≡ any_accepts (types_from (i + 1) ws) u
  unfolding any_accepts
  any-later u h e = ap (λ (ts : List ArgType). any_accepts ts u) (types-step h) ∙ ap (λ (b : Bool). b || any_accepts (types_from (i + 1) ws) u) e

  pub any-end : (u : ArgType) → length ws ≤ i → any_accepts (types_from i ws) u ≡ false
  unfolding any_accepts
  any-end u h = ap (λ (ts : List ArgType). any_accepts ts u) (types-end h)

  pub all-end : (w : World) (t : ArgType) → length ws ≤ i → assignable_to_all w t (types_from i ws) ≡ true
  unfolding assignable_to_all
  all-end w t h = ap (assignable_to_all w t) (types-end h)

-- ---- most_specific_upper

module _ (w : World) (upper : List ArgType) (ws : List ℕ) (i : ℕ) where
  pub least-end : length ws ≤ i → least_hint w upper (types_from i ws) ≡ none
  unfolding least_hint
  least-end h = ap (least_hint w upper) (types-end ws i h)

pub candidate-yes : (w : World) (upper : List ArgType) (t : ArgType) (rest : Option ArgType) → assignable_to_all w t upper ≡ true → candidate w upper (some t) rest ≡ lesser t rest
candidate-yes w upper t rest e = ap (λ (b : Bool). cond b (lesser t rest) rest) e

pub candidate-no : (w : World) (upper : List ArgType) (t : ArgType) (rest : Option ArgType) → assignable_to_all w t upper ≡ false → candidate w upper (some t) rest ≡ rest
candidate-no w upper t rest e = ap (λ (b : Bool). cond b (lesser t rest) rest) e
