-- Lists of categories as sets of bits: a digit of the set is 1 exactly for a member, and a list has every member of another
-- exactly if its set does not change when the other's is joined to it.
use Rattle.std.specs.Prelude.{◌≡◌, refl, Bool, true, false, ◌&&◌, ◌||◌, List, [], ◌∷◌, ℕ, ◌^◌, ◌≤◌, ◌<◌, max, eqb, leb}
use Rattle.std.proofs.Common.{sym, ap, ap₂, ◌∙◌, true≢false, arith, eqb-true, eq-eqb, ne_eqb, leb-true}
use Rattle.std.specs.Int.Bits.{bit_or}
use Rattle.std.proofs.lemmas.Nat.{or_lt}
use Rattle.std.proofs.Math.Pow.{pow-lt}
use Rattle.std.proofs.lemmas.Bool.{eqb-false}
use Rattle.order.specs.Truth.{and-right}
use Rattle.order.specs.Lists.{elem}
use Rattle.sets.specs.Sets.{bit}
use Rattle.sets.specs.Bits.{bit-lt, bit-zero, bit-or, bit-pow-same, bit-pow-other, bit-ext}
use Rattle.ty.specs.Types.{ArgType, Primitive, Object, Array, Unknown, categories, mask_with, depth}
use Rattle.ty.specs.Words.{Legal, type_of, legal_at_base, legal_type}
use Rattle.ty.specs.Digits.{Digits}
use Rattle.ty.specs.Distinct.{distinct-digits}
use Rattle.ty.specs.Round.{legal-of-word}
use Rattle.lattice.specs.Lattice.{has_all, unknown_accepts}

-- ---- the digits of a set

abbrev pub one : Bool → ℕ
one true = 1
one false = 0

one-le : (t : Bool) → one t ≤ 1
one-le true = omega arith
one-le false = omega arith

one-true : (t : Bool) → one t ≡ 1 → t ≡ true
one-true true h = refl
one-true false h = absurd (omega arith)

-- the digit k of a set with a list's members is 1 where it was, or where k is a member
pub bit-mask : (k m : ℕ) (cs : List ℕ) → bit k (mask_with m cs) ≡ max (bit k m) (one (elem k cs))
unfolding mask_with elem
bit-mask k m [] = omega arith
bit-mask k m (c ∷ cs) = bit-mask k (bit_or m (2 ^ c)) cs ∙ go (eqb c k) refl
  where
    go : (t : Bool) → eqb c k ≡ t → max (bit k (bit_or m (2 ^ c))) (one (elem k cs)) ≡ max (bit k m) (one (t || elem k cs))
    go true e =
        let b : bit k (2 ^ c) ≡ 1 = ap (λ (j : ℕ). bit j (2 ^ c)) (sym (eqb-true c k e)) ∙ bit-pow-same c in
        omega (arith, bit-or k m (2 ^ c), bit-lt k m, one-le (elem k cs))
    go false e =
        let b : bit k (2 ^ c) ≡ 0 = bit-pow-other k c (λ q. eqb-false c k e (sym q)) in
        omega (arith, bit-or k m (2 ^ c), bit-lt k m, one-le (elem k cs))

pub bit-of-list : (k : ℕ) (cs : List ℕ) → bit k (mask_with 0 cs) ≡ one (elem k cs)
bit-of-list k cs = bit-mask k 0 cs ∙ omega (arith, bit-zero k)

pub mask-lt : (m : ℕ) (cs : List ℕ) → m < 2 ^ 16 → Digits cs → mask_with m cs < 2 ^ 16
unfolding mask_with
mask-lt m [] h d = h
mask-lt m (c ∷ cs) h d = mask-lt (bit_or m (2 ^ c)) cs (or_lt 16 m (2 ^ c) h (pow-lt d.0)) d.1

-- ---- a list with every member of another

-- by members
all-members : (cs ds : List ℕ) → has_all cs ds ≡ true → (k : ℕ) → elem k ds ≡ true → elem k cs ≡ true
unfolding has_all elem
all-members cs [] h k e = absurd (true≢false (sym e))
all-members cs (d ∷ ds) h k e = go (eqb d k) refl e (all-members cs ds)
  where
    both : (a b : Bool) → (a && b) ≡ true → (a ≡ true) × (b ≡ true)
    both true true p = (refl, refl)
    both true false p = absurd (true≢false (sym p))
    both false b p = absurd (true≢false (sym p))

    go : (t : Bool) → eqb d k ≡ t → (t || elem k ds) ≡ true
        → (has_all cs ds ≡ true → (j : ℕ) → elem j ds ≡ true → elem j cs ≡ true) → elem k cs ≡ true
    go true q p ih = ap (λ (j : ℕ). elem j cs) (sym (eqb-true d k q)) ∙ (both (elem d cs) (has_all cs ds) h).0
    go false q p ih = ih (both (elem d cs) (has_all cs ds) h).1 k p

members-all : (cs ds : List ℕ) → ((k : ℕ) → elem k ds ≡ true → elem k cs ≡ true) → has_all cs ds ≡ true
unfolding has_all elem
members-all cs [] h = refl
members-all cs (d ∷ ds) h =
    ap₂ (λ (a b : Bool). a && b)
    (h d (ap (λ (t : Bool). t || elem d ds) (eq-eqb d d refl)))
    (members-all cs ds (λ k e. h k (later (eqb d k) (elem k ds) e)))
  where
    later : (a b : Bool) → b ≡ true → (a || b) ≡ true
    later true b e = refl
    later false b e = e

module _ (cs ds : List ℕ) where
  -- the set that does not change has the members
  same-all : bit_or (mask_with 0 ds) (mask_with 0 cs) ≡ mask_with 0 cs → has_all cs ds ≡ true
  same-all h = members-all cs ds inside
    where
      inside : (k : ℕ) → elem k ds ≡ true → elem k cs ≡ true
      inside k e =
          let a = bit-of-list k ds ∙ ap one e in
          let o = bit-or k (mask_with 0 ds) (mask_with 0 cs) in
          let s = ap (bit k) h in
          let l = bit-lt k (mask_with 0 cs) in
          one-true (elem k cs) (let b = bit-of-list k cs in omega arith)

  all-same : Digits cs → Digits ds → has_all cs ds ≡ true → bit_or (mask_with 0 ds) (mask_with 0 cs) ≡ mask_with 0 cs
  all-same g h e =
      let c = mask-lt 0 cs (omega arith) g in
      let d = mask-lt 0 ds (omega arith) h in
      bit-ext 16 (bit_or (mask_with 0 ds) (mask_with 0 cs)) (mask_with 0 cs) (or_lt 16 (mask_with 0 ds) (mask_with 0 cs) d c) c
      (λ k l. bit-or k (mask_with 0 ds) (mask_with 0 cs) ∙ digit k (elem k ds) refl)
    where
      digit : (k : ℕ) (t : Bool) → elem k ds ≡ t → max (bit k (mask_with 0 ds)) (bit k (mask_with 0 cs)) ≡ bit k (mask_with 0 cs)
      digit k true q =
          let a = bit-of-list k ds ∙ ap one q in
          let b = bit-of-list k cs ∙ ap one (all-members cs ds e k q) in
          omega arith
      digit k false q = let a = bit-of-list k ds ∙ ap one q in omega arith

  -- A LIST HAS EVERY MEMBER OF ANOTHER EXACTLY IF ITS SET IS THE UNION OF BOTH
  pub all-mask : Digits cs → Digits ds → eqb (bit_or (mask_with 0 ds) (mask_with 0 cs)) (mask_with 0 cs) ≡ has_all cs ds
  all-mask g h = go (has_all cs ds) refl
    where
      go : (t : Bool) → has_all cs ds ≡ t → eqb (bit_or (mask_with 0 ds) (mask_with 0 cs)) (mask_with 0 cs) ≡ t
      go true e = eq-eqb (bit_or (mask_with 0 ds) (mask_with 0 cs)) (mask_with 0 cs) (all-same g h e)
      go false e = ne_eqb (bit_or (mask_with 0 ds) (mask_with 0 cs)) (mask_with 0 cs) (λ q. true≢false (sym (same-all q) ∙ e))

-- ---- unknown_accepts, by the categories of a type

and-true : (a : Bool) → (a && true) ≡ a
and-true true = refl
and-true false = refl

-- it accepts a type exactly if it has every category of it
pub accepts-categories : (cs : List ℕ) (t : ArgType) → unknown_accepts cs t ≡ has_all cs (categories t)
unfolding unknown_accepts has_all categories
accepts-categories cs (Primitive k) = sym (and-true (elem k cs))
accepts-categories cs (Object c) = sym (and-true (elem 9 cs))
accepts-categories cs (Array t) = sym (and-true (elem 10 cs))
accepts-categories cs (Unknown ds) = refl

categories-at-base : (names : ℕ) (t : ArgType) → legal_at_base names t ≡ true → Digits (categories t)
unfolding categories legal_at_base
categories-at-base names (Primitive k) h = let l = leb-true k 10 h in (omega arith, tt)
categories-at-base names (Object c) h = (omega arith, tt)
categories-at-base names (Array t) h = (omega arith, tt)
categories-at-base names (Unknown cs) h = distinct-digits cs h

-- the categories of a legal word are digits
pub categories-digits : (w : ℕ) → w < 2 ^ 64 → Legal w → Digits (categories (type_of w))
unfolding legal_type
categories-digits w l h =
    categories-at-base 1024 (type_of w) (and-right (leb (depth (type_of w)) 255) (legal_at_base 1024 (type_of w)) (legal-of-word 1024 w l h))

-- the same for two words: one's categories accept the other's type exactly if its set is the union of both
pub accepts-mask : (v w a b : ℕ) → v < 2 ^ 64 → w < 2 ^ 64 → Legal v → Legal w
    → a ≡ mask_with 0 (categories (type_of v)) → b ≡ mask_with 0 (categories (type_of w))
    → eqb (bit_or b a) a ≡ unknown_accepts (categories (type_of v)) (type_of w)
accepts-mask v w a b k l g h p q =
    ap₂ (λ (x y : ℕ). eqb (bit_or y x) x) p q
    ∙ all-mask (categories (type_of v)) (categories (type_of w)) (categories-digits v k g) (categories-digits w l h)
    ∙ sym (accepts-categories (categories (type_of v)) (type_of w))
