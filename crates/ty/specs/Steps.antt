-- What the functions on words go by: one law for each case that the code meets.
use Rattle.std.specs.Prelude.{◌≡◌, Bool, cond, not, ◌&&◌, ◌||◌, List, [], ◌∷◌, ltb, length, get_or, drop}
use Rattle.std.proofs.Math.Path.{refl, sym, ap, ap₂}
use Rattle.std.proofs.Common.{◌∙◌, true≢false, one-mul, add-one, shl_exact, drop_of_length-le}
use Rattle.std.proofs.Math.Bool.{true, false}
use Rattle.std.proofs.Math.Option.{some, none}
use Prim.Native.Nat.{ℕ, zero, suc, ◌+◌, ◌-◌, ◌*◌, ◌/◌, ◌%◌, ◌^◌, ◌≤◌, ◌<◌}
use native.Mathlib.Omega.{arith}
use Rattle.std.proofs.Math.Dec.{eqb, leb}
use Rattle.std.specs.Int.Bits.{bit_or, or_zero_l}
use Rattle.std.proofs.Math.ListN.{take}
use Rattle.std.proofs.Math.Seq.{take-nil, drop-cons}
use borrow.Author.Tests.{eq-eqb, ne_eqb, le-ltb, le-leb, lt-leb, leb-true, leb-false}
use Rattle.order.specs.Truth.{and-assoc}
use Rattle.order.specs.Lists.{elem}
use Rattle.ty.specs.Types.{ArgType, Primitive, Object, Array, Unknown, is_known, is_primitive, is_object, is_array, is_reference, wide_category, all_wide, is_wide, is_concrete, categories, mask_with, hint_of_list, concrete_hint, arrays}
use Rattle.ty.specs.Words.{dims_of, tag_of, load_of, unpack, list_of, good_digits, good_unknown, base_of, type_of, word_of, legal_base, legal_word, all_legal}
use Rattle.ty.specs.Shape.{type-array, type-flat}
use Rattle.ty.specs.Round.{word-known, legal-primitive, legal-object, legal-unknown, legal-none}

-- ---- an Unknown's list, one digit after the other

-- the categories from the digit i on, of n
abbrev pub rest_of : ℕ → ℕ → ℕ → List ℕ
rest_of load n i = take (n - i) (unpack (11 - i) load)

module _ (load n i : ℕ) where
  pub unpack-step : i < 11 → unpack (11 - i) load ≡ load / 2 ^ (4 * (10 - i)) % 16 ∷ unpack (11 - (i + 1)) load
  unfolding unpack
  unpack-step h =
      ap (λ (m : ℕ). unpack m load) (let e : 11 - i ≡ suc (11 - (i + 1)) = omega arith in e)
      ∙ ap (λ (m : ℕ). load / 2 ^ (4 * m) % 16 ∷ unpack (11 - (i + 1)) load) (let e : 11 - (i + 1) ≡ 10 - i = omega arith in e)

  pub rest-step : i < 11 → i < n → rest_of load n i ≡ load / 2 ^ (4 * (10 - i)) % 16 ∷ rest_of load n (i + 1)
  rest-step h k = ap₂ (λ (m : ℕ) (l : List ℕ). take m l) (let e : n - i ≡ suc (n - (i + 1)) = omega arith in e) (unpack-step h)

  pub rest-none : n ≤ i → rest_of load n i ≡ []
  rest-none h = ap (λ (m : ℕ). take m (unpack (11 - i) load)) (let e : n - i ≡ 0 = omega arith in e)

  pub rest-end : 11 ≤ i → rest_of load n i ≡ []
  unfolding unpack
  rest-end h = ap (λ (m : ℕ). take (n - i) (unpack m load)) (let e : 11 - i ≡ 0 = omega arith in e) ∙ take-nil (n - i)

-- from the digit 0 on it is the whole list
pub rest-all : (load : ℕ) → list_of load ≡ rest_of load (load / 2 ^ 44) 0
unfolding list_of
rest-all load = ap (λ (m : ℕ). take m (unpack 11 load)) (let e : load / 2 ^ 44 ≡ load / 2 ^ 44 - 0 = omega arith in e)

-- ---- whether a digit is among them, whether all are wide, and the set of them

module _ (load n i : ℕ) where
  pub elem-step : (d : ℕ) → i < 11 → i < n
      → elem d (rest_of load n i) ≡ (eqb (load / 2 ^ (4 * (10 - i)) % 16) d || elem d (rest_of load n (i + 1)))
  unfolding elem
  elem-step d h k = ap (elem d) (rest-step load n i h k)

  pub elem-none : (d : ℕ) → n ≤ i → elem d (rest_of load n i) ≡ false
  unfolding elem
  elem-none d h = ap (elem d) (rest-none load n i h)

  pub wide-step : i < 11 → i < n → all_wide (rest_of load n i) ≡ (wide_category (load / 2 ^ (4 * (10 - i)) % 16) && all_wide (rest_of load n (i + 1)))
  unfolding all_wide
  wide-step h k = ap all_wide (rest-step load n i h k)

  -- by what the digit is
  pub wide-yes : (d : ℕ) → d ≡ load / 2 ^ (4 * (10 - i)) % 16 → i < 11 → i < n → wide_category d ≡ true
      → all_wide (rest_of load n i) ≡ all_wide (rest_of load n (i + 1))
  wide-yes d e h k w = wide-step h k ∙ ap (λ (x : Bool). x && all_wide (rest_of load n (i + 1))) (ap wide_category (sym e) ∙ w)

  pub wide-no : (d : ℕ) → d ≡ load / 2 ^ (4 * (10 - i)) % 16 → i < 11 → i < n → wide_category d ≡ false
      → all_wide (rest_of load n i) ≡ false
  wide-no d e h k w = wide-step h k ∙ ap (λ (x : Bool). x && all_wide (rest_of load n (i + 1))) (ap wide_category (sym e) ∙ w)

  pub wide-none : n ≤ i → all_wide (rest_of load n i) ≡ true
  unfolding all_wide
  wide-none h = ap all_wide (rest-none load n i h)

  pub wide-end : 11 ≤ i → all_wide (rest_of load n i) ≡ true
  unfolding all_wide
  wide-end h = ap all_wide (rest-end load n i h)

  pub mask-step : (m : ℕ) → i < 11 → i < n
      → mask_with m (rest_of load n i) ≡ mask_with (bit_or m (2 ^ (load / 2 ^ (4 * (10 - i)) % 16))) (rest_of load n (i + 1))
  unfolding mask_with
  mask-step m h k = ap (mask_with m) (rest-step load n i h k)

  pub mask-none : (m : ℕ) → n ≤ i → mask_with m (rest_of load n i) ≡ m
  unfolding mask_with
  mask-none m h = ap (mask_with m) (rest-none load n i h)

  pub mask-end : (m : ℕ) → 11 ≤ i → mask_with m (rest_of load n i) ≡ m
  unfolding mask_with
  mask-end m h = ap (mask_with m) (rest-end load n i h)

-- ---- whether the digits are those of an Unknown

-- whether the digit i is as it must be: a category that does not come again, or 0 after the list
unfoldable pub digit_good : ℕ → ℕ → ℕ → Bool
digit_good load n i =
    cond (leb n i) (eqb (load / 2 ^ (4 * (10 - i)) % 16) 0) (leb (load / 2 ^ (4 * (10 - i)) % 16) 10 && not (elem (load / 2 ^ (4 * (10 - i)) % 16) (rest_of load n (i + 1))))

module _ (load n i : ℕ) where
  pub digit-past : n ≤ i → (d : ℕ) → d ≡ load / 2 ^ (4 * (10 - i)) % 16 → eqb d 0 ≡ digit_good load n i
  unfolding digit_good
  digit-past h d e = simp (le-leb n i h, e)

  pub digit-large : i < n → (d : ℕ) → d ≡ load / 2 ^ (4 * (10 - i)) % 16 → 10 < d → false ≡ digit_good load n i
  unfolding digit_good
  digit-large h d e g = simp (lt-leb n i h, ← e, lt-leb d 10 g)

  pub digit-in : i < n → (d : ℕ) → d ≡ load / 2 ^ (4 * (10 - i)) % 16 → d ≤ 10 → not (elem d (rest_of load n (i + 1))) ≡ digit_good load n i
  unfolding digit_good
  digit-in h d e g = simp (lt-leb n i h, ← e, le-leb d 10 g)

  -- the test of the digit i, and then of those after it
  pub good-step : i < 11 → n ≤ 11 → good_digits (n - i) (unpack (11 - i) load) ≡ (digit_good load n i && good_digits (n - (i + 1)) (unpack (11 - (i + 1)) load))
  unfolding good_digits digit_good
  good-step h k = go (leb n i) refl
    where
      D : ℕ
      D = load / 2 ^ (4 * (10 - i)) % 16

      G : Bool
      G = good_digits (n - (i + 1)) (unpack (11 - (i + 1)) load)

      go : (b : Bool) → leb n i ≡ b
          → good_digits (n - i) (unpack (11 - i) load) ≡ (cond b (eqb D 0) (leb D 10 && not (elem D (rest_of load n (i + 1)))) && G)
      go true e =
          let l = leb-true n i e in
          ap₂ (λ (m : ℕ) (ds : List ℕ). good_digits m ds) (let q : n - i ≡ 0 = omega arith in q) (unpack-step load n i h)
          ∙ ap (λ (m : ℕ). eqb D 0 && good_digits m (unpack (11 - (i + 1)) load)) (let q : 0 ≡ n - (i + 1) = omega arith in q)
      go false e =
          let l = leb-false n i e in
          ap₂ (λ (m : ℕ) (ds : List ℕ). good_digits m ds) (let q : n - i ≡ suc (n - (i + 1)) = omega arith in q) (unpack-step load n i h)
          ∙ and-assoc (leb D 10) (not (elem D (rest_of load n (i + 1)))) G

  pub good-end : n ≤ 11 → 11 ≤ i → good_digits (n - i) (unpack (11 - i) load) ≡ true
  unfolding good_digits unpack
  good-end h k = ap₂ (λ (m : ℕ) (l : ℕ). good_digits m (unpack l load)) (let e : n - i ≡ 0 = omega arith in e) (let e : 11 - i ≡ 0 = omega arith in e)

pub unknown-long : (load : ℕ) → 11 < load / 2 ^ 44 → good_unknown load ≡ false
unfolding good_unknown
unknown-long load h = ap (λ (t : Bool). t && good_digits (load / 2 ^ 44) (unpack 11 load)) (lt-leb (load / 2 ^ 44) 11 h)

pub unknown-short : (load : ℕ) → load / 2 ^ 44 ≤ 11 → good_unknown load ≡ good_digits (load / 2 ^ 44) (unpack 11 load)
unfolding good_unknown
unknown-short load h = ap (λ (t : Bool). t && good_digits (load / 2 ^ 44) (unpack 11 load)) (le-leb (load / 2 ^ 44) 11 h)

-- ---- a word's type by its dimensions and its tag

module _ (w : ℕ) where
  pub type-primitive : w < 2 ^ 56 → tag_of w ≡ 0 → type_of w ≡ Primitive (load_of w)
  unfolding base_of
  type-primitive h e = type-flat w h ∙ ap (λ (t : ℕ). base_of t (load_of w)) e

  pub type-object : w < 2 ^ 56 → tag_of w ≡ 1 → type_of w ≡ Object (load_of w)
  unfolding base_of
  type-object h e = type-flat w h ∙ ap (λ (t : ℕ). base_of t (load_of w)) e

  pub type-unknown : w < 2 ^ 56 → (tag_of w ≡ 0 → ⊥) → (tag_of w ≡ 1 → ⊥) → type_of w ≡ Unknown (list_of (load_of w))
  unfolding base_of
  type-unknown h a b = type-flat w h ∙ other (tag_of w) a b
    where
      other : (t : ℕ) → (t ≡ 0 → ⊥) → (t ≡ 1 → ⊥) → base_of t (load_of w) ≡ Unknown (list_of (load_of w))
      other zero p q = absurd (p refl)
      other (suc zero) p q = absurd (q refl)
      other (suc (suc t)) p q = refl

-- ---- the queries, with a dimension and without

known-base : (t load : ℕ) → ltb t 2 ≡ is_known (base_of t load)
unfolding is_known base_of
known-base zero load = refl
known-base (suc zero) load = refl
known-base (suc (suc t)) load = le-ltb (suc (suc t)) 2 (omega arith)

primitive-base : (t load : ℕ) → eqb t 0 ≡ is_primitive (base_of t load)
unfolding is_primitive base_of
primitive-base zero load = refl
primitive-base (suc zero) load = refl
primitive-base (suc (suc t)) load = ne_eqb (suc (suc t)) 0 (λ e. omega arith)

object-base : (t load : ℕ) → eqb t 1 ≡ is_object (base_of t load)
unfolding is_object base_of
object-base zero load = refl
object-base (suc zero) load = refl
object-base (suc (suc t)) load = ne_eqb (suc (suc t)) 1 (λ e. omega arith)

reference-base : (t load : ℕ) → eqb t 1 ≡ is_reference (base_of t load)
unfolding is_reference base_of
reference-base zero load = refl
reference-base (suc zero) load = refl
reference-base (suc (suc t)) load = ne_eqb (suc (suc t)) 1 (λ e. omega arith)

array-base : (t load : ℕ) → false ≡ is_array (base_of t load)
unfolding is_array base_of
array-base zero load = refl
array-base (suc zero) load = refl
array-base (suc (suc t)) load = refl

module _ (w : ℕ) where
  pub known-array : 2 ^ 56 ≤ w → true ≡ is_known (type_of w)
  unfolding is_known
  known-array h = sym (ap is_known (type-array w h))

  pub known-flat : w < 2 ^ 56 → ltb (tag_of w) 2 ≡ is_known (type_of w)
  known-flat h = known-base (tag_of w) (load_of w) ∙ sym (ap is_known (type-flat w h))

  pub primitive-array : 2 ^ 56 ≤ w → false ≡ is_primitive (type_of w)
  unfolding is_primitive
  primitive-array h = sym (ap is_primitive (type-array w h))

  pub primitive-flat : w < 2 ^ 56 → eqb (tag_of w) 0 ≡ is_primitive (type_of w)
  primitive-flat h = primitive-base (tag_of w) (load_of w) ∙ sym (ap is_primitive (type-flat w h))

  pub object-array : 2 ^ 56 ≤ w → false ≡ is_object (type_of w)
  unfolding is_object
  object-array h = sym (ap is_object (type-array w h))

  pub object-flat : w < 2 ^ 56 → eqb (tag_of w) 1 ≡ is_object (type_of w)
  object-flat h = object-base (tag_of w) (load_of w) ∙ sym (ap is_object (type-flat w h))

  pub reference-array : 2 ^ 56 ≤ w → true ≡ is_reference (type_of w)
  unfolding is_reference
  reference-array h = sym (ap is_reference (type-array w h))

  pub reference-flat : w < 2 ^ 56 → eqb (tag_of w) 1 ≡ is_reference (type_of w)
  reference-flat h = reference-base (tag_of w) (load_of w) ∙ sym (ap is_reference (type-flat w h))

  pub array-test : leb (2 ^ 56) w ≡ is_array (type_of w)
  unfolding is_array
  array-test = go (leb (2 ^ 56) w) refl
    where
      go : (b : Bool) → leb (2 ^ 56) w ≡ b → b ≡ is_array (type_of w)
      go true e = sym (ap is_array (type-array w (leb-true (2 ^ 56) w e)))
      go false e = array-base (tag_of w) (load_of w) ∙ sym (ap is_array (type-flat w (leb-false (2 ^ 56) w e)))

-- ---- concrete: dimensions do not count

concrete-arrays : (d : ℕ) (t : ArgType) → is_concrete (arrays d t) ≡ is_concrete t
unfolding is_concrete arrays
concrete-arrays zero t = refl
concrete-arrays (suc d) t = concrete-arrays d t

pub concrete-base : (w : ℕ) → is_concrete (type_of w) ≡ is_concrete (base_of (tag_of w) (load_of w))
unfolding type_of
concrete-base w = concrete-arrays (dims_of w) (base_of (tag_of w) (load_of w))

module _ (w : ℕ) where
  concrete-primitive : tag_of w ≡ 0 → is_concrete (type_of w) ≡ not (eqb (load_of w) 9 || eqb (load_of w) 10)
  unfolding is_concrete base_of
  concrete-primitive e = concrete-base w ∙ ap (λ (t : ℕ). is_concrete (base_of t (load_of w))) e

  pub concrete-object-category : tag_of w ≡ 0 → load_of w ≡ 9 → false ≡ is_concrete (type_of w)
  concrete-object-category e f = sym (concrete-primitive e ∙ ap (λ (b : Bool). not (b || eqb (load_of w) 10)) (eq-eqb (load_of w) 9 f))

  pub concrete-other : tag_of w ≡ 0 → (load_of w ≡ 9 → ⊥) → not (eqb (load_of w) 10) ≡ is_concrete (type_of w)
  concrete-other e f = sym (concrete-primitive e ∙ ap (λ (b : Bool). not (b || eqb (load_of w) 10)) (ne_eqb (load_of w) 9 f))

  pub concrete-tag : (tag_of w ≡ 0 → ⊥) → eqb (tag_of w) 1 ≡ is_concrete (type_of w)
  unfolding is_concrete base_of
  concrete-tag e = by-tag (tag_of w) e ∙ sym (concrete-base w)
    where
      by-tag : (t : ℕ) → (t ≡ 0 → ⊥) → eqb t 1 ≡ is_concrete (base_of t (load_of w))
      by-tag zero p = absurd (p refl)
      by-tag (suc zero) p = refl
      by-tag (suc (suc t)) p = ne_eqb (suc (suc t)) 1 (λ q. omega arith)

-- ---- the hint of a type

hint-same : (b : Bool) (a : ArgType) → b ≡ true → cond b (some a) none ≡ some a
hint-same b a e = rw e

hint-none : (b : Bool) (a : ArgType) → b ≡ false → cond b (some a) none ≡ none
hint-none b a e = rw e

-- of a known type: itself, where it is concrete
pub hint-known : (object : ℕ) (t : ArgType) → is_known t ≡ true → is_concrete t ≡ true → concrete_hint object t ≡ some t
unfolding concrete_hint is_known is_concrete
hint-known object (Primitive k) a b = hint-same (is_concrete (Primitive k)) (Primitive k) b
hint-known object (Object c) a b = refl
hint-known object (Array t) a b = hint-same (is_concrete t) (Array t) b
hint-known object (Unknown cs) a b = absurd (let z : ◌≡◌ {A = ℕ} 0 1 = cc in omega arith)

pub hint-vague : (object : ℕ) (t : ArgType) → is_known t ≡ true → is_concrete t ≡ false → concrete_hint object t ≡ none
unfolding concrete_hint is_known is_concrete
hint-vague object (Primitive k) a b = hint-none (is_concrete (Primitive k)) (Primitive k) b
hint-vague object (Object c) a b = absurd (let z : ◌≡◌ {A = ℕ} 0 1 = cc in omega arith)
hint-vague object (Array t) a b = hint-none (is_concrete t) (Array t) b
hint-vague object (Unknown cs) a b = absurd (let z : ◌≡◌ {A = ℕ} 0 1 = cc in omega arith)

-- of an Unknown: what its list hints at
pub hint-unknown : (object w : ℕ) → is_known (type_of w) ≡ false → concrete_hint object (type_of w) ≡ hint_of_list object (list_of (load_of w))
unfolding concrete_hint
hint-unknown object w e = go (leb (2 ^ 56) w) refl
  where
    never : {P : Type 0} → true ≡ false → P
    never q = absurd (let z : ◌≡◌ {A = ℕ} 0 1 = cc in omega arith)

    flat : w < 2 ^ 56 → (t : ℕ) → tag_of w ≡ t → concrete_hint object (type_of w) ≡ hint_of_list object (list_of (load_of w))
    flat h zero q = never (ap (λ (t : ℕ). ltb t 2) (sym q) ∙ known-flat w h ∙ e)
    flat h (suc zero) q = never (ap (λ (t : ℕ). ltb t 2) (sym q) ∙ known-flat w h ∙ e)
    flat h (suc (suc t)) q = ap (concrete_hint object) (type-unknown w h (λ z. omega arith) (λ z. omega arith))

    go : (b : Bool) → leb (2 ^ 56) w ≡ b → concrete_hint object (type_of w) ≡ hint_of_list object (list_of (load_of w))
    go true q = never (known-array w (leb-true (2 ^ 56) w q) ∙ e)
    go false q = flat (leb-false (2 ^ 56) w q) (tag_of w) refl

-- of a list of one category
module _ (object load : ℕ) where
  single : load / 2 ^ 44 ≡ 1 → list_of load ≡ load / 2 ^ (4 * (10 - 0)) % 16 ∷ []
  unfolding list_of unpack
  single e = ap (λ (m : ℕ). take m (unpack 11 load)) e

  pub hint-object : (c : ℕ) → c ≡ load / 2 ^ (4 * (10 - 0)) % 16 → load / 2 ^ 44 ≡ 1 → c ≡ 9 → hint_of_list object (list_of load) ≡ some (Object object)
  unfolding hint_of_list
  hint-object c d e f = ap (hint_of_list object) (single e) ∙ simp (← d, eq-eqb c 9 f)

  pub hint-array : (c : ℕ) → c ≡ load / 2 ^ (4 * (10 - 0)) % 16 → load / 2 ^ 44 ≡ 1 → c ≡ 10 → hint_of_list object (list_of load) ≡ none
  unfolding hint_of_list
  hint-array c d e f = ap (hint_of_list object) (single e) ∙ simp (← d, f)

  pub hint-primitive : (c : ℕ) → c ≡ load / 2 ^ (4 * (10 - 0)) % 16 → load / 2 ^ 44 ≡ 1 → (c ≡ 9 → ⊥) → (c ≡ 10 → ⊥)
      → hint_of_list object (list_of load) ≡ some (Primitive c)
  unfolding hint_of_list
  hint-primitive c d e f g = ap (hint_of_list object) (single e) ∙ simp (← d, ne_eqb c 9 f, ne_eqb c 10 g)

  pub hint-many : (load / 2 ^ 44 ≡ 1 → ⊥) → hint_of_list object (list_of load) ≡ none
  unfolding hint_of_list list_of unpack
  hint-many e = go (load / 2 ^ 44) e
    where
      go : (n : ℕ) → (n ≡ 1 → ⊥) → hint_of_list object (take n (unpack 11 load)) ≡ none
      go zero h = refl
      go (suc zero) h = absurd (h refl)
      go (suc (suc n)) h = refl

-- where a type is its own hint, the word is its own
pub concrete-word : (w : ℕ) → is_concrete (type_of w) ≡ true → word_of (type_of w) ≡ w
unfolding is_concrete base_of
concrete-word w h = word-known w (below (tag_of w) (sym (concrete-base w) ∙ h))
  where
    below : (t : ℕ) → is_concrete (base_of t (load_of w)) ≡ true → t < 2
    below zero e = omega arith
    below (suc zero) e = omega arith
    below (suc (suc t)) e = absurd (true≢false (sym e))

-- ---- wide, and the set of categories, by dimensions and tag

module _ (w : ℕ) where
  pub wide-array : 2 ^ 56 ≤ w → false ≡ is_wide (type_of w)
  unfolding is_wide
  wide-array h = sym (ap is_wide (type-array w h))

  pub wide-primitive : w < 2 ^ 56 → tag_of w ≡ 0 → wide_category (load_of w) ≡ is_wide (type_of w)
  unfolding is_wide
  wide-primitive h e = sym (ap is_wide (type-primitive w h e))

  pub wide-object : w < 2 ^ 56 → tag_of w ≡ 1 → false ≡ is_wide (type_of w)
  unfolding is_wide
  wide-object h e = sym (ap is_wide (type-object w h e))

  pub wide-unknown : w < 2 ^ 56 → (tag_of w ≡ 0 → ⊥) → (tag_of w ≡ 1 → ⊥) → all_wide (list_of (load_of w)) ≡ is_wide (type_of w)
  unfolding is_wide
  wide-unknown h a b = sym (ap is_wide (type-unknown w h a b))

  pub mask-array : 2 ^ 56 ≤ w → 1024 ≡ mask_with 0 (categories (type_of w))
  unfolding mask_with categories
  mask-array h = sym (ap (λ (t : ArgType). mask_with 0 (categories t)) (type-array w h) ∙ or_zero_l 1024)

  pub mask-primitive : w < 2 ^ 56 → tag_of w ≡ 0 → 2 ^ load_of w ≡ mask_with 0 (categories (type_of w))
  unfolding mask_with categories
  mask-primitive h e = sym (ap (λ (t : ArgType). mask_with 0 (categories t)) (type-primitive w h e) ∙ or_zero_l (2 ^ load_of w))

  pub mask-object : w < 2 ^ 56 → tag_of w ≡ 1 → 512 ≡ mask_with 0 (categories (type_of w))
  unfolding mask_with categories
  mask-object h e = sym (ap (λ (t : ArgType). mask_with 0 (categories t)) (type-object w h e) ∙ or_zero_l 512)

  pub mask-unknown : w < 2 ^ 56 → (tag_of w ≡ 0 → ⊥) → (tag_of w ≡ 1 → ⊥) → mask_with 0 (list_of (load_of w)) ≡ mask_with 0 (categories (type_of w))
  unfolding categories
  mask-unknown h a b = sym (ap (λ (t : ArgType). mask_with 0 (categories t)) (type-unknown w h a b))

-- a legal primitive has one of the eleven categories
pub legal-category : (names w : ℕ) → legal_word names w ≡ true → tag_of w ≡ 0 → load_of w ≤ 10
unfolding legal_word
legal-category names w h e =
    leb-true (load_of w) 10 (sym (legal-primitive names (load_of w)) ∙ ap (λ (t : ℕ). legal_base names t (load_of w)) (sym e) ∙ h)

-- ---- the check, by the tag

module _ (names w : ℕ) where
  pub check-primitive : tag_of w ≡ 0 → legal_word names w ≡ leb (load_of w) 10
  unfolding legal_word
  check-primitive e = ap (λ (t : ℕ). legal_base names t (load_of w)) e ∙ legal-primitive names (load_of w)

  pub check-object : tag_of w ≡ 1 → legal_word names w ≡ ltb (load_of w) names
  unfolding legal_word
  check-object e = ap (λ (t : ℕ). legal_base names t (load_of w)) e ∙ legal-object names (load_of w)

  pub check-unknown : tag_of w ≡ 2 → legal_word names w ≡ good_unknown (load_of w)
  unfolding legal_word
  check-unknown e = ap (λ (t : ℕ). legal_base names t (load_of w)) e ∙ legal-unknown names (load_of w)

  pub check-none : (tag_of w ≡ 0 → ⊥) → (tag_of w ≡ 1 → ⊥) → (tag_of w ≡ 2 → ⊥) → legal_word names w ≡ false
  unfolding legal_word
  check-none a b c = legal-none names (load_of w) (tag_of w) (above (tag_of w) a b c)
    where
      above : (t : ℕ) → (t ≡ 0 → ⊥) → (t ≡ 1 → ⊥) → (t ≡ 2 → ⊥) → 2 < t
      above t p q r = omega arith

-- ---- the words of a slice

module _ (names : ℕ) (ws : List ℕ) (i : ℕ) where
  -- what is said of the word i decides what is said of it and the words after it
  pub all-legal-next : i < length ws → (t : Bool) → legal_word names (get_or ws i 0) ≡ t → all_legal names (drop i ws) ≡ (t && all_legal names (drop (i + 1) ws))
  unfolding all_legal
  all-legal-next h t e = rw (add-one i, drop-cons ws i 0 h) (ap (λ (b : Bool). b && all_legal names (drop (suc i) ws)) e)

  pub all-legal-end : length ws ≤ i → all_legal names (drop i ws) ≡ true
  unfolding all_legal
  all-legal-end h = rw (drop_of_length-le ws h)

-- 1 << k, within a word
pub one-shifted : (k : ℕ) → k < 64 → 1 * 2 ^ k % 2 ^ 64 ≡ 2 ^ k
one-shifted k h = shl_exact 1 k 64 (omega arith) (omega arith) ∙ one-mul (2 ^ k)
