-- Reading a method as the code goes: the parameters from an offset on, after so many, with the first bad name met so far.
use Rattle.std.specs.Prelude.{◌≡◌, Bool, leb, take, drop, get_or}
use Rattle.std.proofs.Math.Path.{refl, sym, ap}
use Rattle.std.proofs.Common.{ap₂, subst, ◌∙◌}
use Rattle.std.proofs.Math.Bool.{true, false}
use mathlib.Core.List.{List, [], ◌∷◌}
use Prim.Native.Nat.{ℕ, zero, suc, ◌+◌, ◌-◌, ◌≤◌, ◌<◌}
use native.Mathlib.Omega.{arith}
use Rattle.std.proofs.Math.Dec.{eqb}
use Rattle.std.proofs.Math.ListN.{length}
use borrow.Author.Tests.{eq-eqb, ne_eqb, le-leb, lt-leb, le-ltb, lt-ltb, eqb-true}
use Rattle.methods.specs.Strict.{first_bad, closing}
use Rattle.descriptor.specs.declared.Base.{Base}
use Rattle.descriptor.specs.declared.Base.TheVariants.{Simple, Class}
use Rattle.descriptor.specs.Read.{Read, Found, Refused, pick_r, read_type, finish, strict_name, strictly}
use Rattle.methods.specs.Method.{Params, Listed, Stopped, Method, Whole, Broken, pick_p, pick_m, before, onward, read_params, returns, after_params, read_method, strict_params, strict_method, read_method_strict}
use Rattle.methods.specs.Answers.{method_of}
use Rattle.descriptor.specs.Laws.{Tells, read-tells, finish-tells, strictly-tells}

-- ---- the parameters from an offset on: as many turns as bytes are left are enough

abbrev pub params_at : List ℕ → ℕ → ℕ → Params
params_at s at count = read_params (length s - at) s at count

onward-same : (s : List ℕ) (at : ℕ) (f g : ℕ → Params) (r : Read) → Tells s at 0 r → ((next : ℕ) → at < next → f next ≡ g next) → onward at f r ≡ onward at g r
onward-same s at f g (Found d base next) h e = ap (before at) (e next h.forward)
onward-same s at f g (Refused code o byte) h e = refl

turns-same : (t u : ℕ) (s : List ℕ) (at count : ℕ) → length s - at ≤ t → length s - at ≤ u → read_params t s at count ≡ read_params u s at count
unfolding read_params
turns-same zero zero s at count h k = refl
turns-same zero (suc u) s at count h k = rw (le-leb (length s) at (omega arith))
turns-same (suc t) zero s at count h k = rw (le-leb (length s) at (omega arith))
turns-same (suc t) (suc u) s at count h k = go (leb (length s) at) refl (λ next i. turns-same t u s next (count + 1) (omega arith) (omega arith))
  where
    go : (b : Bool) → leb (length s) at ≡ b → ((next : ℕ) → at < next → read_params t s next (count + 1) ≡ read_params u s next (count + 1))
        → read_params (suc t) s at count ≡ read_params (suc u) s at count
    go true e f = rw e
    go false e f =
        ap (λ (p : Params). pick_p (leb (length s) at) (Stopped 17 at 0) (pick_p (eqb (get_or s at 0) 41) (Listed [] at) (pick_p (leb 255 count) (Stopped 19 at 0) p)))
        (onward-same s at (λ next. read_params t s next (count + 1)) (λ next. read_params u s next (count + 1)) (read_type (drop at s) at false 0) (read-tells s at false) f)

module _ (s : List ℕ) (at count : ℕ) where
  params-end : length s ≤ at → params_at s at count ≡ Stopped 17 at 0
  unfolding read_params
  params-end h = ap (λ (n : ℕ). read_params n s at count) (let e : length s - at ≡ 0 = omega arith in e)

  params-at : at < length s
      → params_at s at count
      ≡ pick_p (eqb (get_or s at 0) 41) (Listed [] at)
      (pick_p (leb 255 count) (Stopped 19 at 0) (onward at (λ next. params_at s next (count + 1)) (read_type (drop at s) at false 0)))
  unfolding read_params
  params-at h =
      let m = length s - (at + 1) in
      ap (λ (n : ℕ). read_params n s at count) (let e : length s - at ≡ suc (length s - (at + 1)) = omega arith in e)
      ∙ ap (λ (b : Bool). pick_p b (Stopped 17 at 0) (pick_p (eqb (get_or s at 0) 41) (Listed [] at) (pick_p (leb 255 count) (Stopped 19 at 0) (onward at (λ next. read_params (length s - (at + 1)) s next (count + 1)) (read_type (drop at s) at false 0)))))
      (lt-leb (length s) at h)
      ∙ ap (λ (p : Params). pick_p (eqb (get_or s at 0) 41) (Listed [] at) (pick_p (leb 255 count) (Stopped 19 at 0) p))
      (onward-same s at (λ next. read_params (length s - (at + 1)) s next (count + 1)) (λ next. params_at s next (count + 1)) (read_type (drop at s) at false 0) (read-tells s at false)
      (λ next i. turns-same (length s - (at + 1)) (length s - next) s next (count + 1) (omega arith) (omega arith)))

-- ---- a method from a parameter on

-- judged strictly, where `bad` is the offset of the first bad name before (0 for none)
unfoldable pub judged_all : List ℕ → Bool → ℕ → Method → Method
judged_all s false bad m = m
judged_all s true bad (Whole offsets at result) = pick_m (eqb bad 0) (strict_method s (Whole offsets at result)) (Broken 24 bad 0)
judged_all s true bad (Broken code at byte) = Broken code at byte

unfoldable pub method_from : List ℕ → Bool → ℕ → ℕ → ℕ → Method
method_from s strict bad at count = judged_all s strict bad (after_params s (params_at s at count))

-- what is left when the ')' at `close` is met
unfoldable pub ending : List ℕ → Bool → ℕ → ℕ → Method
ending s strict bad close = judged_all s strict bad (returns s [] close (finish s (read_type (drop (close + 1) s) (close + 1) true 0)))

abbrev pub also : ℕ → Method → Method
also at (Whole offsets o result) = Whole (at ∷ offsets) o result
also at (Broken code o byte) = Broken code o byte

judged-broken : (s : List ℕ) (strict : Bool) (bad code at byte : ℕ) → judged_all s strict bad (Broken code at byte) ≡ Broken code at byte
unfolding judged_all
judged-broken s true bad code at byte = refl
judged-broken s false bad code at byte = refl

after-before : (s : List ℕ) (at : ℕ) (p : Params) → after_params s (before at p) ≡ also at (after_params s p)
unfolding after_params returns
after-before s at (Listed offsets close) = go (finish s (read_type (drop (close + 1) s) (close + 1) true 0))
  where
    go : (r : Read) → returns s (at ∷ offsets) close r ≡ also at (returns s offsets close r)
    go (Found d base next) = refl
    go (Refused code o byte) = refl
after-before s at (Stopped code o byte) = refl

strict-also : (s : List ℕ) (offsets : List ℕ) (at : ℕ) (m : Method) → strict_params s offsets (also at m) ≡ also at (strict_params s offsets m)
unfolding strict_params
strict-also s [] at m = refl
strict-also s (o ∷ offsets) at m = go (strictly s (read_type (drop o s) o false 0)) refl (strict-also s offsets at m)
  where
    go : (r : Read) → strictly s (read_type (drop o s) o false 0) ≡ r → strict_params s offsets (also at m) ≡ also at (strict_params s offsets m)
        → strict_params s (o ∷ offsets) (also at m) ≡ also at (strict_params s (o ∷ offsets) m)
    go (Found d base next) e h = rw e h
    go (Refused code p byte) e h = rw e

-- a bad name at a parameter from which `also` goes on: refused 24, and not at offset 0
abbrev BadAt : Read → Type 0
BadAt (Found d base next) = Unit {0}
BadAt (Refused code at byte) = (code ≡ 24) × (byte ≡ 0) × (1 ≤ at)

strict-bad : (s : List ℕ) (at dims d : ℕ) (base : Base) (next : ℕ) → 1 ≤ at → Tells s at dims (Found d base next) → BadAt (strictly s (Found d base next))
unfolding strictly
strict-bad s at dims d (Simple k) next l h = tt
strict-bad s at dims d (Class p n) next l h = go (strict_name (take n (drop p s)))
  where
    go : (t : Bool) → BadAt (pick_r t (Found d (Class p n) next) (Refused 24 (p - 1) 0))
    go true = tt
    go false = (refl, refl, let a = h.made.after in omega arith)

module _ (s : List ℕ) (at d : ℕ) (base : Base) (next : ℕ) (t : Read) (r : t ≡ read_type (drop at s) at false 0) (f : t ≡ Found d base next) where
  type-tells : Tells s at 0 (Found d base next)
  type-tells = subst (Tells s at 0) (sym r ∙ f) (read-tells s at false)

  strict-more : (offsets : List ℕ) (o : ℕ) (result x q : Read) → strictly s t ≡ x → BadAt x → strictly s result ≡ q
      → strict_method s (Whole (at ∷ offsets) o result) ≡ also at (judged_all s true (first_bad s true 0 t) (Whole offsets o result))
  unfolding strict_method strict_params judged_all first_bad
  strict-more offsets o result (Found d' base' next') (Found d'' base'' next'') e h i = rw (← r, e, i) (strict-also s offsets at (Whole offsets o (Found d'' base'' next'')))
  strict-more offsets o result (Found d' base' next') (Refused code p byte) e h i = rw (← r, e, i) (strict-also s offsets at (Broken code p byte))
  strict-more offsets o result (Refused code p byte) q e h i =
      rw (← r, e, ne_eqb p 0 (λ z. omega arith)) (ap₂ (λ (x y : ℕ). Broken x p y) h.0 h.1)

  judged-more : (strict : Bool) (bad : ℕ) (m : Method) → 1 ≤ at
      → judged_all s strict bad (also at m) ≡ also at (judged_all s strict (first_bad s strict bad t) m)
  unfolding judged_all first_bad
  judged-more false bad m l = refl
  judged-more true bad (Broken code o byte) l = refl
  judged-more true bad (Whole offsets o result) l = go (eqb bad 0) refl
    where
      go : (b : Bool) → eqb bad 0 ≡ b → judged_all s true bad (Whole (at ∷ offsets) o result) ≡ also at (judged_all s true (first_bad s true bad t) (Whole offsets o result))
      go true e =
          rw (eqb-true bad 0 e)
          (strict-more offsets o result (strictly s t) (strictly s result) refl (subst (λ (x : Read). BadAt (strictly s x)) (sym f) (strict-bad s at 0 d base next l type-tells)) refl)
      go false e = rw (e, e)

-- ---- one step

module _ (s : List ℕ) (strict : Bool) (bad at count : ℕ) where
  by-params : (p : Params) → params_at s at count ≡ p → judged_all s strict bad (after_params s p) ≡ method_from s strict bad at count
  unfolding method_from
  by-params p e = ap (λ (q : Params). judged_all s strict bad (after_params s q)) (sym e)

  stopped : (code o byte : ℕ) → params_at s at count ≡ Stopped code o byte → Broken code o byte ≡ method_from s strict bad at count
  unfolding after_params
  stopped code o byte e = sym (judged-broken s strict bad code o byte) ∙ by-params (Stopped code o byte) e

  pub method-end : length s ≤ at → Broken 17 at 0 ≡ method_from s strict bad at count
  method-end h = stopped 17 at 0 (params-end s at count h)

  module _ (h : at < length s) where
    pub method-close : get_or s at 0 ≡ 41 → ending s strict bad at ≡ method_from s strict bad at count
    unfolding after_params ending
    method-close e = by-params (Listed [] at) (params-at s at count h ∙ rw (eq-eqb (get_or s at 0) 41 e))

    module _ (n : get_or s at 0 ≡ 41 → ⊥) where
      pub method-full : 255 ≤ count → Broken 19 at 0 ≡ method_from s strict bad at count
      method-full l = stopped 19 at 0 (params-at s at count h ∙ rw (ne_eqb (get_or s at 0) 41 n, le-leb 255 count l))

      module _ (l : count < 255) (t : Read) (r : t ≡ read_type (drop at s) at false 0) where
        next-param : params_at s at count ≡ onward at (λ next. params_at s next (count + 1)) t
        next-param = params-at s at count h ∙ rw (ne_eqb (get_or s at 0) 41 n, lt-leb 255 count l, r)

        pub method-refused : (code o byte : ℕ) → t ≡ Refused code o byte → Broken code o byte ≡ method_from s strict bad at count
        method-refused code o byte f = stopped code o byte (next-param ∙ rw f)

        pub method-more : (d : ℕ) (base : Base) (next : ℕ) → t ≡ Found d base next → 1 ≤ at
            → also at (method_from s strict (first_bad s strict bad t) next (count + 1)) ≡ method_from s strict bad at count
        unfolding method_from
        method-more d base next f k =
            let p = params_at s next (count + 1) in
            sym (judged-more s at d base next t r f strict bad (after_params s p) k)
            ∙ ap (judged_all s strict bad) (sym (after-before s at p))
            ∙ by-params (before at p) (next-param ∙ rw f)

-- ---- the return type

pub closing-judged : (s : List ℕ) (strict : Bool) (bad close : ℕ) (f : Read) → returns s [] close (closing s strict bad f) ≡ judged_all s strict bad (returns s [] close f)
unfolding closing judged_all returns strict_method strict_params
closing-judged s false bad close f = refl
closing-judged s true bad close (Refused code o byte) = refl
closing-judged s true bad close (Found d base next) = go (eqb bad 0) (strictly s (Found d base next)) refl refl
  where
    go : (t : Bool) (q : Read) → eqb bad 0 ≡ t → strictly s (Found d base next) ≡ q
        → returns s [] close (closing s true bad (Found d base next)) ≡ judged_all s true bad (returns s [] close (Found d base next))
    go true (Found d' base' next') e f = rw (e, f)
    go true (Refused code o byte) e f = rw (e, f)
    go false q e f = rw e

-- ---- the whole

unopened : (s : List ℕ) → (0 < length s → get_or s 0 0 ≡ 40 → ⊥) → read_method s ≡ Broken 16 0 0
unfolding read_method
unopened [] n = refl
unopened (b ∷ bs) n = rw (ne_eqb b 40 (n (omega arith)))

opened : (s : List ℕ) → get_or s 0 0 ≡ 40 → read_method s ≡ after_params s (params_at s 1 0)
unfolding read_method
opened [] e = absurd (omega arith)
opened (b ∷ bs) e = rw (eq-eqb b 40 e) (ap (after_params (b ∷ bs)) (turns-same (suc (length bs)) (suc (length bs) - 1) (b ∷ bs) 1 0 (omega arith) (omega arith)))

judged-whole : (strict : Bool) (s : List ℕ) (m : Method) → pick_m strict (strict_method s m) m ≡ judged_all s strict 0 m
unfolding strict_method judged_all
judged-whole true s (Whole offsets at result) = refl
judged-whole true s (Broken code at byte) = refl
judged-whole false s m = refl

module _ (strict : Bool) (s : List ℕ) (room : ℕ) where
  pub method-short : room < 255 → Broken 22 0 0 ≡ method_of strict s room
  unfolding method_of
  method-short h = rw (lt-ltb room 255 h)

  module _ (h : 255 ≤ room) where
    pub method-unopened : (0 < length s → get_or s 0 0 ≡ 40 → ⊥) → Broken 16 0 0 ≡ method_of strict s room
    unfolding method_of read_method_strict
    method-unopened n = rw (le-ltb room 255 h, unopened s n) (sym (judged-whole strict s (Broken 16 0 0) ∙ judged-broken s strict 0 16 0 0))

    pub method-opened : get_or s 0 0 ≡ 40 → method_from s strict 0 1 0 ≡ method_of strict s room
    unfolding method_of read_method_strict method_from
    method-opened e = rw (le-ltb room 255 h, opened s e) (sym (judged-whole strict s (after_params s (params_at s 1 0))))

-- ---- refusals are not 0

-- a method has a return type, or a refusal other than 0
abbrev pub Proper : Method → Type 0
Proper (Whole offsets at (Found d base next)) = Unit {0}
Proper (Whole offsets at (Refused code o byte)) = ⊥
Proper (Broken code at byte) = code ≡ 0 → ⊥

abbrev ProperParams : Params → Type 0
ProperParams (Listed offsets close) = Unit {0}
ProperParams (Stopped code at byte) = code ≡ 0 → ⊥

either-params : (t : Bool) (a b : Params) → ProperParams a → ProperParams b → ProperParams (pick_p t a b)
either-params true a b p q = p
either-params false a b p q = q

proper-onward : (s : List ℕ) (at : ℕ) (f : ℕ → Params) (r : Read) → Tells s at 0 r → ((next : ℕ) → ProperParams (f next)) → ProperParams (onward at f r)
proper-onward s at f (Found d base next) h g = go (f next) (g next)
  where
    go : (p : Params) → ProperParams p → ProperParams (before at p)
    go (Listed offsets close) q = tt
    go (Stopped code o byte) q = q
proper-onward s at f (Refused code o byte) h g = λ z. omega arith

proper-params : (turns : ℕ) (s : List ℕ) (at count : ℕ) → ProperParams (read_params turns s at count)
unfolding read_params
proper-params zero s at count = λ z. omega arith
proper-params (suc turns) s at count =
    either-params (leb (length s) at) _ _ (λ z. omega arith)
    (either-params (eqb (get_or s at 0) 41) _ _ tt
    (either-params (leb 255 count) _ _ (λ z. omega arith)
    (proper-onward s at (λ next. read_params turns s next (count + 1)) (read_type (drop at s) at false 0) (read-tells s at false) (λ next. proper-params turns s next (count + 1)))))

proper-after : (s : List ℕ) (p : Params) → ProperParams p → Proper (after_params s p)
unfolding after_params returns
proper-after s (Listed offsets close) h =
    go (finish s (read_type (drop (close + 1) s) (close + 1) true 0)) (finish-tells s (close + 1) 0 _ (read-tells s (close + 1) true))
  where
    go : (r : Read) → Tells s (close + 1) 0 r → Proper (returns s offsets close r)
    go (Found d base next) h = tt
    go (Refused code o byte) h = λ z. omega arith
proper-after s (Stopped code at byte) h = h

proper-strict : (s : List ℕ) (offsets : List ℕ) (m : Method) → Proper m → Proper (strict_params s offsets m)
unfolding strict_params
proper-strict s [] m h = h
proper-strict s (o ∷ offsets) m h =
    go (strictly s (read_type (drop o s) o false 0)) refl (strictly-tells s o 0 _ (read-tells s o false)) (proper-strict s offsets m h)
  where
    go : (r : Read) → strictly s (read_type (drop o s) o false 0) ≡ r → Tells s o 0 r → Proper (strict_params s offsets m) → Proper (strict_params s (o ∷ offsets) m)
    go (Found d base next) e t q = rw e q
    go (Refused code p byte) e t q = rw e (λ z. omega arith)

proper-judged : (s : List ℕ) (strict : Bool) (bad : ℕ) (m : Method) → Proper m → Proper (judged_all s strict bad m)
unfolding judged_all strict_method strictly
proper-judged s false bad m h = h
proper-judged s true bad (Broken code at byte) h = h
proper-judged s true bad (Whole offsets at (Refused code o byte)) h = absurd h
proper-judged s true bad (Whole offsets at (Found d (Simple k) next)) h = go (eqb bad 0)
  where
    go : (t : Bool) → Proper (pick_m t (strict_method s (Whole offsets at (Found d (Simple k) next))) (Broken 24 bad 0))
    go true = proper-strict s offsets _ tt
    go false = λ z. omega arith
proper-judged s true bad (Whole offsets at (Found d (Class p n) next)) h = go (eqb bad 0) (strict_name (take n (drop p s))) refl
  where
    go : (t u : Bool) → strict_name (take n (drop p s)) ≡ u → Proper (pick_m t (strict_method s (Whole offsets at (Found d (Class p n) next))) (Broken 24 bad 0))
    go true true e = rw e (proper-strict s offsets (Whole offsets at (Found d (Class p n) next)) tt)
    go true false e = rw e (proper-strict s offsets (Broken 24 (p - 1) 0) (λ z. omega arith))
    go false u e = λ z. omega arith

pub proper-from : (s : List ℕ) (strict : Bool) (bad at count : ℕ) → Proper (method_from s strict bad at count)
unfolding method_from
proper-from s strict bad at count = proper-judged s strict bad _ (proper-after s _ (proper-params (length s - at) s at count))
