-- What the functions on lists of categories go by: one law for each case that the code meets.
use Rattle.std.specs.Prelude.{◌≡◌, Bool, true, false, cond, ltb, length, take}
use Rattle.std.proofs.Math.Path.{refl, sym, ap, ap₂}
use Rattle.std.proofs.Common.{◌∙◌, true≢false, mod-lt, length-take, pow-add}
use mathlib.Core.List.{List, [], ◌∷◌}
use Prim.Native.Nat.{ℕ, zero, suc, ◌+◌, ◌-◌, ◌*◌, ◌/◌, ◌%◌, ◌^◌, ◌≤◌, ◌<◌}
use native.Mathlib.Omega.{arith}
use Rattle.std.specs.Int.Bits.{bit_or}
use Rattle.std.proofs.Math.Dec.{eqb}
use borrow.Author.Tests.{eq-eqb, ne_eqb, ltb-true, ltb-false}
use Rattle.sets.specs.Sets.{bit}
use Rattle.ty.specs.Types.{ArgType, categories, mask_with, is_known}
use Rattle.ty.specs.Words.{tag_of, load_of, unpack, pack, list_of, type_of, word_of, Legal}
use Rattle.ty.specs.Answers.{unknown_word, constants}
use Rattle.ty.specs.Digits.{Digits, pack-lt}
use Rattle.ty.specs.Round.{list_load}
use Rattle.ty.specs.Shape.{type-array}
use Rattle.ty.specs.Steps.{rest_of, rest-all, rest-step, rest-none, known-array, known-flat, type-primitive, type-object, type-unknown}
use Rattle.keys.specs.Parts.{unknown-length}
use Rattle.lattice.specs.Lattice.{unknown_accepts, unknown_union, in_both, or_full, join_known}
use Rattle.lattice.specs.Unions.{has, kept, from, has-mask, kept-both, kept-ascending, kept-length, kept-digits}
use Rattle.lattice.specs.JoinCases.{accepts-category, known-accepted, known-united}
use Rattle.joins.specs.Joins.{with_first}

-- ---- a payload with one member more

pow-four : (n : ℕ) → 2 ^ (4 * suc n) ≡ 16 * 2 ^ (4 * n)
pow-four n = ap (λ (x : ℕ). 2 ^ x) (let e : 4 * suc n ≡ 4 + 4 * n = omega arith in e) ∙ pow-add 2 4 (4 * n)

-- one place more for the same digits
pack-wider : (n : ℕ) (cs : List ℕ) → length cs ≤ n → pack (suc n) cs ≡ 16 * pack n cs
unfolding pack
pack-wider zero [] h = refl
pack-wider (suc n) [] h = refl
pack-wider zero (c ∷ cs) h = absurd (omega arith)
pack-wider (suc n) (c ∷ cs) h =
    ap₂ (λ (x y : ℕ). c * x + y) (pow-four n) (pack-wider n cs (omega arith)) ∙ regroup c (2 ^ (4 * n)) (pack n cs)
  where
    regroup : (a b d : ℕ) → a * (16 * b) + 16 * d ≡ 16 * (a * b + d)
    regroup a b d = let q : a * (16 * b) ≡ 16 * (a * b) = swap a b in omega arith
      where
        swap : (a b : ℕ) → a * (16 * b) ≡ 16 * (a * b)
        swap a b = omega arith

pub with-first : (c : ℕ) (cs : List ℕ) → Digits cs → length cs ≤ 10 → with_first c (list_load cs) ≡ list_load (c ∷ cs)
unfolding with_first pack
with-first c cs d h =
    let p = pack-lt 11 cs d in
    let w = pack-wider 10 cs h in
    omega arith

-- ---- the members that are kept of a list's rest

-- the payload of those of the digits from i on
abbrev pub kept_from : ℕ → ℕ → ℕ → ℕ
kept_from load set i = list_load (kept set (rest_of load (load / 2 ^ 44) i))

unpack-digits : (n x : ℕ) → Digits (unpack n x)
unfolding unpack
unpack-digits zero x = tt
unpack-digits (suc n) x = (mod-lt (x / 2 ^ (4 * n)) (omega arith), unpack-digits n x)

take-digits : (n : ℕ) (cs : List ℕ) → Digits cs → Digits (take n cs)
take-digits zero cs h = tt
take-digits (suc n) [] h = tt
take-digits (suc n) (c ∷ cs) h = (h.0, take-digits n cs h.1)

module _ (load set : ℕ) where
  rest-kept : (i : ℕ) → (Digits (kept set (rest_of load (load / 2 ^ 44) i))) × (length (kept set (rest_of load (load / 2 ^ 44) i)) ≤ load / 2 ^ 44 - i)
  rest-kept i =
      let n = load / 2 ^ 44 in
      let l = kept-length set (rest_of load n i) in
      let t = length-take (n - i) (unpack (11 - i) load) in
      (kept-digits set (rest_of load n i) (take-digits (n - i) (unpack (11 - i) load) (unpack-digits (11 - i) load)), omega arith)

  pub kept-lt : (i : ℕ) → kept_from load set i < (load / 2 ^ 44 - i + 1) * 2 ^ 44
  kept-lt i =
      let r = rest-kept i in
      let l = r.1 in
      let p = pack-lt 11 (kept set (rest_of load (load / 2 ^ 44) i)) r.0 in
      omega arith

  pub kept-start : 0 ≡ kept_from load set (load / 2 ^ 44)
  unfolding kept pack
  kept-start = sym (ap (λ (l : List ℕ). list_load (kept set l)) (rest-none load (load / 2 ^ 44) (load / 2 ^ 44) (omega arith)))

  pub kept-step : (i c : ℕ) → 0 < i → i ≤ load / 2 ^ 44 → load / 2 ^ 44 ≤ 11 → c ≡ load / 2 ^ (4 * (10 - (i - 1))) % 16
      → cond (eqb (set / 2 ^ c % 2) 1) (with_first c (kept_from load set i)) (kept_from load set i) ≡ kept_from load set (i - 1)
  unfolding kept has bit
  kept-step i c p h m e =
      go (eqb (set / 2 ^ c % 2) 1)
      ∙ sym
      (ap (λ (l : List ℕ). list_load (kept set l))
      (rest-step load n (i - 1) (omega arith) (omega arith)
      ∙ ap₂ (λ (d j : ℕ). d ∷ rest_of load n j) (sym e) (let q : i - 1 + 1 ≡ i = omega arith in q)))
    where
      n : ℕ
      n = load / 2 ^ 44

      ks : List ℕ
      ks = kept set (rest_of load n i)

      go : (b : Bool) → cond b (with_first c (list_load ks)) (list_load ks) ≡ list_load (cond b (c ∷ ks) ks)
      go true = let r = rest-kept i in let l = r.1 in with-first c ks r.0 (omega arith)
      go false = refl

  pub kept-all : kept_from load set 0 ≡ list_load (kept set (list_of load))
  kept-all = ap (λ (l : List ℕ). list_load (kept set l)) (sym (rest-all load))

  pub kept-fits : load / 2 ^ 44 ≤ 11 → list_load (kept set (list_of load)) < 2 ^ 48
  kept-fits h = let k = kept-lt 0 in let e = kept-all in omega arith

-- ---- the union

eleven : list_of 0xb0123456789a ≡ from 0 11
unfolding list_of unpack from
eleven = refl

pub union-word : (t u : ArgType) (a b : ℕ) → a ≡ mask_with 0 (categories t) → b ≡ mask_with 0 (categories u)
    → 2 * 2 ^ 48 + list_load (kept (bit_or a b) (list_of 0xb0123456789a)) ≡ word_of (unknown_union t u)
unfolding word_of unknown_union
union-word t u a b p q =
    ap (λ (cs : List ℕ). 2 * 2 ^ 48 + list_load cs)
    (ap₂ (λ (x y : ℕ). kept (bit_or x y) (list_of 0xb0123456789a)) p q
    ∙ ap (kept (bit_or (mask_with 0 (categories t)) (mask_with 0 (categories u)))) eleven
    ∙ kept-ascending (categories t) (categories u) 0 11)

-- ---- what both have

empty-load : list_load [] ≡ 0
unfolding pack
empty-load = refl

module _ (cs ds : List ℕ) where
  pub both-none : list_load (in_both cs ds) ≡ 0 → unknown_word ≡ word_of (or_full (in_both cs ds))
  both-none h = go (in_both cs ds) h
    where
      go : (l : List ℕ) → list_load l ≡ 0 → unknown_word ≡ word_of (or_full l)
      go [] e = sym constants.4
      go (c ∷ l) e = absurd (omega arith)

  pub both-some : (list_load (in_both cs ds) ≡ 0 → ⊥) → 2 * 2 ^ 48 + list_load (in_both cs ds) ≡ word_of (or_full (in_both cs ds))
  unfolding word_of
  both-some h = go (in_both cs ds) h
    where
      go : (l : List ℕ) → (list_load l ≡ 0 → ⊥) → 2 * 2 ^ 48 + list_load l ≡ word_of (or_full l)
      go [] e = absurd (e empty-load)
      go (c ∷ l) e = refl

-- ---- an Unknown's word, and a known type's category

module _ (w : ℕ) (unknown : is_known (type_of w) ≡ false) where
  unknown-flat : (w < 2 ^ 56) × (2 ≤ tag_of w)
  unknown-flat = go (ltb w (2 ^ 56)) refl
    where
      tag : w < 2 ^ 56 → 2 ≤ tag_of w
      tag h = ltb-false (tag_of w) 2 (known-flat w h ∙ unknown)

      go : (b : Bool) → ltb w (2 ^ 56) ≡ b → (w < 2 ^ 56) × (2 ≤ tag_of w)
      go true e = let h = ltb-true w (2 ^ 56) e in (h, tag h)
      go false e = absurd (true≢false (known-array w (ltb-false w (2 ^ 56) e) ∙ unknown))

  pub unknown-list : categories (type_of w) ≡ list_of (load_of w)
  unfolding categories
  unknown-list =
      let h = unknown-flat.0 in
      let t = unknown-flat.1 in
      ap categories (type-unknown w h (λ e. omega arith) (λ e. omega arith))

  pub unknown-short : w < 2 ^ 64 → Legal w → load_of w / 2 ^ 44 ≤ 11
  unknown-short f l = let u = unknown-length w f l unknown-flat.1 in omega arith

module _ (w : ℕ) where
  pub category-array : 2 ^ 56 ≤ w → categories (type_of w) ≡ 10 ∷ []
  unfolding categories
  category-array h = ap categories (type-array w h)

  pub category-primitive : w < 2 ^ 56 → tag_of w ≡ 0 → categories (type_of w) ≡ load_of w ∷ []
  unfolding categories
  category-primitive h e = ap categories (type-primitive w h e)

  pub category-object : w < 2 ^ 56 → (tag_of w ≡ 0 → ⊥) → is_known (type_of w) ≡ true → categories (type_of w) ≡ 9 ∷ []
  unfolding categories
  category-object h e k =
      let t = ltb-true (tag_of w) 2 (known-flat w h ∙ k) in
      ap categories (type-object w h (one (tag_of w) e t))
    where
      one : (t : ℕ) → (t ≡ 0 → ⊥) → t < 2 → t ≡ 1
      one t p q = omega arith

-- ---- a known type with an Unknown

module _ (t u : ArgType) (c m : ℕ) (known : is_known t ≡ true) (is : categories t ≡ c ∷ []) (set : m ≡ mask_with 0 (categories u)) where
  accepts : unknown_accepts (categories u) t ≡ eqb (m / 2 ^ c % 2) 1
  unfolding has bit
  accepts =
      accepts-category (categories u) t c known is
      ∙ sym (has-mask (categories u) c)
      ∙ ap (λ (x : ℕ). eqb (x / 2 ^ c % 2) 1) (sym set)

  pub known-in : m / 2 ^ c % 2 ≡ 1 → join_known t (categories u) ≡ t
  known-in h = known-accepted t (categories u) (accepts ∙ eq-eqb (m / 2 ^ c % 2) 1 h)

  pub known-out : (m / 2 ^ c % 2 ≡ 1 → ⊥) → join_known t (categories u) ≡ unknown_union t u
  known-out h = known-united t u (accepts ∙ ne_eqb (m / 2 ^ c % 2) 1 h)

-- the members of an Unknown's list that a type has
pub both-load : (left right : ℕ) → is_known (type_of left) ≡ false → (load set : ℕ) → load ≡ load_of left → set ≡ mask_with 0 (categories (type_of right))
    → list_load (kept set (list_of load)) ≡ list_load (in_both (categories (type_of left)) (categories (type_of right)))
both-load left right u load set p q =
    ap list_load
    (ap₂ (λ (m x : ℕ). kept m (list_of x)) q p
    ∙ ap (kept (mask_with 0 (categories (type_of right)))) (sym (unknown-list left u))
    ∙ kept-both (categories (type_of left)) (categories (type_of right)))
