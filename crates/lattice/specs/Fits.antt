-- The parts of a join, below the dimensions: lists of categories without repeats, and what each way of `join_apart` gives. What is
-- shown here Legality puts together.
use Rattle.std.specs.Prelude.{◌≡◌, Bool, true, false, cond, ◌&&◌, ◌||◌, ℕ, zero, suc, ◌+◌, ◌≤◌, ◌<◌, eqb}
use Rattle.std.proofs.Math.Path.{refl}
use Rattle.std.proofs.Common.{sym, ap, ◌∙◌, true≢false, arith}
use mathlib.Core.List.{List, [], ◌∷◌}
use Rattle.std.proofs.Math.Decide.{ℕ_discrete}
use borrow.Author.Tests.{eq-eqb, lt-ltb, le-leb, ne_eqb}
use Rattle.order.specs.Lists.{elem}
use Rattle.ty.specs.Types.{ArgType, Primitive, Object, Array, Unknown, is_primitive, Boolean, Int, Long, Float, Double}
use Rattle.ty.specs.Words.{distinct, legal_at_base}
use Rattle.ty.specs.Distinct.{distinct-first, distinct-fresh, distinct-rest}
use Rattle.lattice.specs.Lattice.{unknown_accepts, in_either, unknown_union, narrow, under_double, join_primitive, in_both, or_full, join_known, join_elements}

-- what holds of both holds of the one that is picked
pub by-cond : (P : ArgType → Type 0) (b : Bool) (t u : ArgType) → P t → P u → P (cond b t u)
by-cond P true t u p q = p
by-cond P false t u p q = q

-- what a join of two primitives may be
pub primitive-by : (P : ArgType → Type 0) (left right : ℕ)
    → P (Unknown (Boolean ∷ Int ∷ [])) → P (Primitive Int) → P (Primitive Long) → P (Primitive Float) → P (Primitive Double) → P (Unknown (left ∷ right ∷ []))
    → P (join_primitive left right)
unfolding join_primitive
primitive-by P left right either int long float double both =
    by-cond P ((eqb left Boolean && eqb right Int) || (eqb left Int && eqb right Boolean)) _ _ either
    (by-cond P (narrow left && narrow right) _ _ int
    (by-cond P ((eqb left Long && narrow right) || (narrow left && eqb right Long)) _ _ long
    (by-cond P ((eqb left Float && narrow right) || (narrow left && eqb right Float)) _ _ float
    (by-cond P ((eqb left Double && under_double right) || (under_double left && eqb right Double)) _ _ double both))))

-- ---- lists of categories

distinct-cons : (c : ℕ) (cs : List ℕ) → c ≤ 10 → elem c cs ≡ false → distinct cs ≡ true → distinct (c ∷ cs) ≡ true
unfolding distinct
distinct-cons c cs l e h = rw (le-leb c 10 l, e, h)

ascending-above : (cs ds : List ℕ) (i n k : ℕ) → k < i → elem k (in_either cs ds i n) ≡ false
unfolding in_either elem
ascending-above cs ds i zero k l = refl
ascending-above cs ds i (suc n) k l = go (elem i cs || elem i ds) (ascending-above cs ds (suc i) n k (omega arith))
  where
    go : (b : Bool) → elem k (in_either cs ds (suc i) n) ≡ false → elem k (cond b (i ∷ in_either cs ds (suc i) n) (in_either cs ds (suc i) n)) ≡ false
    go true e = rw (ne_eqb i k (omega arith), e)
    go false e = e

-- it has what either list has, in its range
pub ascending-elem : (cs ds : List ℕ) (i n k : ℕ) → i ≤ k → k < i + n → elem k (in_either cs ds i n) ≡ (elem k cs || elem k ds)
unfolding in_either elem
ascending-elem cs ds i zero k l h = absurd (omega arith)
ascending-elem cs ds i (suc n) k l h = go (elem i cs || elem i ds) refl (ℕ_discrete i k) (λ m. ascending-elem cs ds (suc i) n k m (omega arith))
  where
    go : (b : Bool) → (elem i cs || elem i ds) ≡ b → Dec (i ≡ k) → (suc i ≤ k → elem k (in_either cs ds (suc i) n) ≡ (elem k cs || elem k ds))
        → elem k (cond b (i ∷ in_either cs ds (suc i) n) (in_either cs ds (suc i) n)) ≡ (elem k cs || elem k ds)
    go true e (yes q) ih = ap (λ (x : Bool). x || elem k (in_either cs ds (suc i) n)) (eq-eqb i k q) ∙ sym e ∙ ap (λ (x : ℕ). elem x cs || elem x ds) q
    go true e (no q) ih = ap (λ (x : Bool). x || elem k (in_either cs ds (suc i) n)) (ne_eqb i k q) ∙ ih (omega arith)
    go false e (yes q) ih = ascending-above cs ds (suc i) n k (omega arith) ∙ sym e ∙ ap (λ (x : ℕ). elem x cs || elem x ds) q
    go false e (no q) ih = ih (omega arith)

pub ascending-distinct : (cs ds : List ℕ) (i n : ℕ) → i + n ≤ 11 → distinct (in_either cs ds i n) ≡ true
unfolding in_either distinct
ascending-distinct cs ds i zero l = refl
ascending-distinct cs ds i (suc n) l =
    go (elem i cs || elem i ds) (ascending-above cs ds (suc i) n i (omega arith)) (ascending-distinct cs ds (suc i) n (omega arith))
  where
    go : (b : Bool) → elem i (in_either cs ds (suc i) n) ≡ false → distinct (in_either cs ds (suc i) n) ≡ true
        → distinct (cond b (i ∷ in_either cs ds (suc i) n) (in_either cs ds (suc i) n)) ≡ true
    go true e h = distinct-cons i (in_either cs ds (suc i) n) (omega arith) e h
    go false e h = h

in_both-fresh : (k : ℕ) (cs ds : List ℕ) → elem k cs ≡ false → elem k (in_both cs ds) ≡ false
unfolding in_both elem
in_both-fresh k [] ds h = refl
in_both-fresh k (c ∷ cs) ds h = go (eqb c k) (elem c ds) refl h (in_both-fresh k cs ds)
  where
    go : (a b : Bool) → eqb c k ≡ a → (a || elem k cs) ≡ false → (elem k cs ≡ false → elem k (in_both cs ds) ≡ false) → elem k (cond b (c ∷ in_both cs ds) (in_both cs ds)) ≡ false
    go true b q f ih = absurd (true≢false f)
    go false true q f ih = rw (q, ih f)
    go false false q f ih = ih f

pub in_both-distinct : (cs ds : List ℕ) → distinct cs ≡ true → distinct (in_both cs ds) ≡ true
unfolding in_both distinct
in_both-distinct [] ds h = refl
in_both-distinct (c ∷ cs) ds h = go (elem c ds) (in_both-distinct cs ds (distinct-rest c cs h))
  where
    go : (b : Bool) → distinct (in_both cs ds) ≡ true → distinct (cond b (c ∷ in_both cs ds) (in_both cs ds)) ≡ true
    go true e = distinct-cons c (in_both cs ds) (distinct-first c cs h) (in_both-fresh c cs ds (distinct-fresh c cs h)) e
    go false e = e

pair : (c d : ℕ) → c ≤ 10 → d ≤ 10 → (c ≡ d → ⊥) → distinct (c ∷ d ∷ []) ≡ true
unfolding distinct elem
pair c d l r apart = rw (le-leb c 10 l, le-leb d 10 r, ne_eqb d c (λ e. apart (sym e)))

-- ---- the parts of a join, below the dimensions

module _ (names : ℕ) where
  abbrev pub Fits : ArgType → Type 0
  Fits t = legal_at_base names t ≡ true

  pub number-fits : (k : ℕ) → k ≤ 10 → Fits (Primitive k)
  unfolding legal_at_base
  number-fits k l = le-leb k 10 l

  pub class-fits : (c : ℕ) → c < names → Fits (Object c)
  unfolding legal_at_base
  class-fits c l = lt-ltb c names l

  pub list-fits : (cs : List ℕ) → distinct cs ≡ true → Fits (Unknown cs)
  unfolding legal_at_base
  list-fits cs h = h

  pub union-fits : (t u : ArgType) → Fits (unknown_union t u)
  unfolding unknown_union
  union-fits t u = list-fits _ (ascending-distinct _ _ 0 11 (omega arith))

  pub primitive-fits : (left right : ℕ) → left ≤ 10 → right ≤ 10 → (left ≡ right → ⊥) → Fits (join_primitive left right)
  primitive-fits left right l r apart =
      primitive-by Fits left right
      (list-fits (Boolean ∷ Int ∷ []) (pair Boolean Int (omega arith) (omega arith) (λ e. absurd (omega arith))))
      (number-fits Int (omega arith))
      (number-fits Long (omega arith))
      (number-fits Float (omega arith))
      (number-fits Double (omega arith))
      (list-fits (left ∷ right ∷ []) (pair left right l r apart))

  pub known-fits : (t : ArgType) (cs : List ℕ) → Fits t → Fits (join_known t cs)
  unfolding join_known
  known-fits t cs h = by-cond Fits (unknown_accepts cs t) t (unknown_union t (Unknown cs)) h (union-fits t (Unknown cs))

  pub full-fits : (cs : List ℕ) → distinct cs ≡ true → Fits (or_full cs)
  unfolding legal_at_base distinct elem
  full-fits [] h = refl
  full-fits (c ∷ cs) h = h

  pub elements-fit : (object : ℕ) (t u whole : ArgType) → object < names → Fits whole → Fits (join_elements object t u whole)
  unfolding join_elements legal_at_base
  elements-fit object t u whole o h = by-cond Fits (is_primitive t || is_primitive u) (Object object) (Array whole) (lt-ltb object names o) h
