-- Words and types, there and back: a legal word is the word of its type, and a type within the limits is the type of its word.
use Rattle.std.specs.Prelude.{◌≡◌, true, false, ℕ, zero, suc, ◌+◌, ◌-◌, ◌*◌, ◌/◌, ◌%◌, ◌^◌, ◌≤◌, ◌<◌, leb, ltb, drop, replicate}
use Rattle.std.proofs.Math.Path.{refl, sym, ap, ap₂}
use Rattle.std.proofs.Common.{◌∙◌, true≢false, zero-add, take-append-drop}
use Rattle.std.proofs.Math.Bool.{or-false}
use mathlib.Core.List.{List, ◌++◌}
use native.Mathlib.Omega.{arith}
use Rattle.std.proofs.Math.ListN.{length, take, length-append, length-replicate}
use Rattle.std.proofs.Math.Seq.{take-append_seam, length-take-le}
use borrow.Author.Tests.{leb-true, ltb-true, le-leb, lt-ltb, ne_eqb}
use Rattle.order.specs.Truth.{and-left, and-right, and-both}
use Rattle.ty.specs.Types.{ArgType, Primitive, Object, Array, Unknown, arrays, depth}
use Rattle.ty.specs.Words.{dims_of, tag_of, load_of, unpack, pack, list_of, good_digits, good_unknown, base_of, type_of, word_of, legal_base, legal_word, distinct, legal_at_base, legal_type}
use Rattle.ty.specs.Digits.{pack-unpack, pack-lt, unpack-pack, pack-zeros, digits-zeros}
use Rattle.ty.specs.Distinct.{good-distinct, good-zeros, good-padded, distinct-digits, distinct-length}
use Rattle.ty.specs.Shape.{type-deeper, word-deeper, type-flat, legal-deeper}

-- ---- which loads are legal under each tag

module _ (names load : ℕ) where
  pub legal-primitive : legal_base names 0 load ≡ leb load 10
  unfolding legal_base
  legal-primitive = or-false (leb load 10)

  pub legal-object : legal_base names 1 load ≡ ltb load names
  unfolding legal_base
  legal-object = or-false (ltb load names)

  pub legal-unknown : legal_base names 2 load ≡ good_unknown load
  unfolding legal_base
  legal-unknown = refl

  pub legal-none : (tag : ℕ) → 2 < tag → legal_base names tag load ≡ false
  unfolding legal_base
  legal-none tag h = simp (ne_eqb tag 0 (omega arith), ne_eqb tag 1 (omega arith), ne_eqb tag 2 (omega arith))

  no-more-tags : (t : ℕ) → legal_base names (suc (suc (suc t))) load ≡ true → ⊥
  no-more-tags t h = true≢false (sym h ∙ legal-none (suc (suc (suc t))) (omega arith))

-- ---- an Unknown's list and its payload

-- the payload of a list
abbrev pub list_load : List ℕ → ℕ
list_load cs = length cs * 2 ^ 44 + pack 11 cs

length-unpack : (n x : ℕ) → length (unpack n x) ≡ n
unfolding unpack
length-unpack zero x = refl
length-unpack (suc n) x = ap suc (length-unpack n x)

module _ (load : ℕ) (h : good_unknown load ≡ true) where
  good-length : load / 2 ^ 44 ≤ 11
  unfolding good_unknown
  good-length = leb-true (load / 2 ^ 44) 11 (and-left (leb (load / 2 ^ 44) 11) (good_digits (load / 2 ^ 44) (unpack 11 load)) h)

  good-digits : good_digits (load / 2 ^ 44) (unpack 11 load) ≡ true
  unfolding good_unknown
  good-digits = and-right (leb (load / 2 ^ 44) 11) (good_digits (load / 2 ^ 44) (unpack 11 load)) h

  pub list-distinct : distinct (list_of load) ≡ true
  unfolding list_of
  list-distinct = good-distinct (load / 2 ^ 44) (unpack 11 load) good-digits

  pub list-length : length (list_of load) ≡ load / 2 ^ 44
  unfolding list_of
  list-length =
      length-take-le (load / 2 ^ 44) (unpack 11 load) (let l = length-unpack 11 load in let n = good-length in omega arith)

  list-pack : pack 11 (list_of load) ≡ load % 2 ^ 44
  unfolding list_of
  list-pack =
      let n = load / 2 ^ 44 in
      let ds = unpack 11 load in
      sym (pack-zeros 11 (take n ds) (length (drop n ds)))
      ∙ ap (λ (zs : List ℕ). pack 11 (take n ds ++ zs)) (sym (good-zeros n ds good-digits))
      ∙ ap (pack 11) (take-append-drop n ds)
      ∙ pack-unpack 11 load

  -- a good payload is that of its list
  pub load-of-list : list_load (list_of load) ≡ load
  load-of-list = let l = list-length in let p = list-pack in omega arith

module _ (cs : List ℕ) (h : distinct cs ≡ true) where
  list-low : pack 11 cs < 2 ^ 44
  list-low = pack-lt 11 cs (distinct-digits cs h)

  load-length : list_load cs / 2 ^ 44 ≡ length cs
  load-length = let p = list-low in omega arith

  pub load-lt : list_load cs < 2 ^ 48
  load-lt = let p = list-low in let n = distinct-length cs h in omega arith

  -- the list's digits, and zeros up to eleven
  padded : List ℕ
  padded = cs ++ replicate (11 - length cs) 0

  length-padded : length padded ≡ 11
  unfolding padded
  length-padded =
      let a = length-append cs (replicate (11 - length cs) 0) in
      let z = length-replicate {A = ℕ} (11 - length cs) 0 in
      let n = distinct-length cs h in
      omega arith

  load-unpack : unpack 11 (list_load cs) ≡ padded
  unfolding padded
  load-unpack =
      ap (λ (y : ℕ). unpack 11 (length cs * 2 ^ 44 + y)) (sym (pack-zeros 11 cs (11 - length cs)))
      ∙ unpack-pack 11 padded (length cs) (digits-zeros cs (11 - length cs) (distinct-digits cs h)) length-padded

  -- a list without repeats is the list of its payload
  pub list-of-load : list_of (list_load cs) ≡ cs
  unfolding list_of padded
  list-of-load =
      ap₂ take load-length load-unpack ∙ take-append_seam cs (replicate (11 - length cs) 0)

  pub load-good : good_unknown (list_load cs) ≡ true
  unfolding good_unknown padded
  load-good =
      and-both (leb (list_load cs / 2 ^ 44) 11) (good_digits (list_load cs / 2 ^ 44) (unpack 11 (list_load cs)))
      (le-leb (list_load cs / 2 ^ 44) 11 (let l = load-length in let n = distinct-length cs h in omega arith))
      (ap₂ good_digits load-length load-unpack ∙ good-padded cs (11 - length cs) h)

-- ---- a word's tag and payload, and the type at its base

base-known : (tag load : ℕ) → tag < 2 → word_of (base_of tag load) ≡ tag * 2 ^ 48 + load
unfolding word_of base_of
base-known zero load h = omega arith
base-known (suc zero) load h = omega arith
base-known (suc (suc t)) load h = absurd (omega arith)

base-word : (names tag load : ℕ) → legal_base names tag load ≡ true → word_of (base_of tag load) ≡ tag * 2 ^ 48 + load
unfolding word_of base_of
base-word names zero load h = base-known 0 load (omega arith)
base-word names (suc zero) load h = base-known 1 load (omega arith)
base-word names (suc (suc zero)) load h = ap (λ (l : ℕ). 2 * 2 ^ 48 + l) (load-of-list load (sym (legal-unknown names load) ∙ h))
base-word names (suc (suc (suc t))) load h = absurd (no-more-tags names load t h)

base-legal : (names tag load : ℕ) → legal_base names tag load ≡ true → legal_at_base names (base_of tag load) ≡ true
unfolding legal_at_base base_of
base-legal names zero load h = sym (legal-primitive names load) ∙ h
base-legal names (suc zero) load h = sym (legal-object names load) ∙ h
base-legal names (suc (suc zero)) load h = list-distinct load (sym (legal-unknown names load) ∙ h)
base-legal names (suc (suc (suc t))) load h = absurd (no-more-tags names load t h)

base-depth : (tag load : ℕ) → depth (base_of tag load) ≡ 0
unfolding depth base_of
base-depth zero load = refl
base-depth (suc zero) load = refl
base-depth (suc (suc t)) load = refl

-- ---- under arrays

pub arrays-word : (d : ℕ) (t : ArgType) → word_of (arrays d t) ≡ d * 2 ^ 56 + word_of t
unfolding arrays word_of
arrays-word zero t = omega arith
arrays-word (suc d) t = let r = arrays-word d t in omega arith

arrays-depth : (d : ℕ) (t : ArgType) → depth (arrays d t) ≡ d + depth t
unfolding arrays depth
arrays-depth zero t = omega arith
arrays-depth (suc d) t = let r = arrays-depth d t in omega arith

arrays-legal : (names d : ℕ) (t : ArgType) → legal_at_base names (arrays d t) ≡ legal_at_base names t
unfolding arrays legal_at_base
arrays-legal names zero t = refl
arrays-legal names (suc d) t = arrays-legal names d t

-- ---- from a word

pub depth-dims : (w : ℕ) → depth (type_of w) ≡ dims_of w
unfolding type_of
depth-dims w =
    let b = base-depth (tag_of w) (load_of w) in
    let a = arrays-depth (dims_of w) (base_of (tag_of w) (load_of w)) in
    omega arith

-- where the base has the word's tag and payload, the type has the word
type-parts : (w : ℕ) → word_of (base_of (tag_of w) (load_of w)) ≡ tag_of w * 2 ^ 48 + load_of w → word_of (type_of w) ≡ w
unfolding type_of
type-parts w b = let a = arrays-word (dims_of w) (base_of (tag_of w) (load_of w)) in omega arith

-- a legal word is the word of its type
pub word-of-type : (names w : ℕ) → legal_word names w ≡ true → word_of (type_of w) ≡ w
unfolding legal_word
word-of-type names w h = type-parts w (base-word names (tag_of w) (load_of w) h)

-- and so is a word of a primitive or a class, legal or not, under any dimensions
pub word-known : (w : ℕ) → tag_of w < 2 → word_of (type_of w) ≡ w
word-known w h = type-parts w (base-known (tag_of w) (load_of w) h)

pub legal-of-word : (names w : ℕ) → w < 2 ^ 64 → legal_word names w ≡ true → legal_type names (type_of w) ≡ true
unfolding legal_word legal_type type_of
legal-of-word names w l h =
    and-both (leb (depth (type_of w)) 255) (legal_at_base names (type_of w))
    (le-leb (depth (type_of w)) 255 (let d = depth-dims w in omega arith))
    (arrays-legal names (dims_of w) (base_of (tag_of w) (load_of w)) ∙ base-legal names (tag_of w) (load_of w) h)

pub type-word : (names w : ℕ) → w < 2 ^ 64 → legal_word names w ≡ true → (word_of (type_of w) ≡ w) × (legal_type names (type_of w) ≡ true)
type-word names w l h = (word-of-type names w h, legal-of-word names w l h)

-- ---- from a type

-- what is no array: its word's parts
base-type : (tag load : ℕ) → tag < 256 → load < 2 ^ 48 → type_of (tag * 2 ^ 48 + load) ≡ base_of tag load
base-type tag load g l =
    let w = tag * 2 ^ 48 + load in
    type-flat w (let k : w < 2 ^ 56 = omega arith in k)
    ∙ ap₂ base_of (let e : tag_of w ≡ tag = omega arith in e) (let e : load_of w ≡ load = omega arith in e)

base-check : (names tag load : ℕ) → tag < 256 → load < 2 ^ 48 → legal_word names (tag * 2 ^ 48 + load) ≡ legal_base names tag load
unfolding legal_word
base-check names tag load g l =
    let w = tag * 2 ^ 48 + load in
    ap₂ (legal_base names) (let e : tag_of w ≡ tag = omega arith in e) (let e : load_of w ≡ load = omega arith in e)

type-at-base : (names : ℕ) (t : ArgType) → names ≤ 2 ^ 48 → legal_at_base names t ≡ true → type_of (word_of t) ≡ t
unfolding word_of base_of legal_at_base
type-at-base names (Primitive k) n h = let b = leb-true k 10 h in ap type_of (sym (zero-add k)) ∙ base-type 0 k (omega arith) (omega arith)
type-at-base names (Object c) n h = let b = ltb-true c names h in base-type 1 c (omega arith) (omega arith)
type-at-base names (Array t) n h = ap type_of (word-deeper t) ∙ type-deeper (word_of t) ∙ ap Array (type-at-base names t n h)
type-at-base names (Unknown cs) n h = base-type 2 (list_load cs) (omega arith) (load-lt cs h) ∙ ap Unknown (list-of-load cs h)

check-at-base : (names : ℕ) (t : ArgType) → names ≤ 2 ^ 48 → legal_at_base names t ≡ true → legal_word names (word_of t) ≡ true
unfolding word_of legal_at_base
check-at-base names (Primitive k) n h =
    let b = leb-true k 10 h in
    ap (legal_word names) (sym (zero-add k)) ∙ base-check names 0 k (omega arith) (omega arith) ∙ legal-primitive names k ∙ h
check-at-base names (Object c) n h =
    let b = ltb-true c names h in base-check names 1 c (omega arith) (omega arith) ∙ legal-object names c ∙ h
check-at-base names (Array t) n h =
    ap (legal_word names) (word-deeper t) ∙ legal-deeper names (word_of t) ∙ check-at-base names t n h
check-at-base names (Unknown cs) n h =
    base-check names 2 (list_load cs) (omega arith) (load-lt cs h) ∙ legal-unknown names (list_load cs) ∙ load-good cs h

lt-at-base : (names : ℕ) (t : ArgType) → names ≤ 2 ^ 48 → legal_at_base names t ≡ true → word_of t < suc (depth t) * 2 ^ 56
unfolding word_of depth legal_at_base
lt-at-base names (Primitive k) n h = let b = leb-true k 10 h in omega arith
lt-at-base names (Object c) n h = let b = ltb-true c names h in omega arith
lt-at-base names (Array t) n h = let r = lt-at-base names t n h in omega arith
lt-at-base names (Unknown cs) n h = let l = load-lt cs h in omega arith

module _ (names : ℕ) (t : ArgType) (n : names ≤ 2 ^ 48) (h : legal_type names t ≡ true) where
  at-base : legal_at_base names t ≡ true
  unfolding legal_type
  at-base = and-right (leb (depth t) 255) (legal_at_base names t) h

  shallow : depth t ≤ 255
  unfolding legal_type
  shallow = leb-true (depth t) 255 (and-left (leb (depth t) 255) (legal_at_base names t) h)

  -- a type within the limits is the type of its word
  pub type-of-word : type_of (word_of t) ≡ t
  type-of-word = type-at-base names t n at-base

  pub legal-of-type : legal_word names (word_of t) ≡ true
  legal-of-type = check-at-base names t n at-base

  pub word-fits : word_of t < 2 ^ 64
  word-fits = let l = lt-at-base names t n at-base in let d = shallow in omega arith

  pub word-type : (type_of (word_of t) ≡ t) × (legal_word names (word_of t) ≡ true) × (word_of t < 2 ^ 64)
  word-type = (type-of-word, legal-of-type, word-fits)

-- ---- more names

base-more : (names more tag load : ℕ) → names ≤ more → legal_base names tag load ≡ true → legal_base more tag load ≡ true
base-more names more zero load m h = legal-primitive more load ∙ sym (legal-primitive names load) ∙ h
base-more names more (suc zero) load m h =
    let b = ltb-true load names (sym (legal-object names load) ∙ h) in
    legal-object more load ∙ lt-ltb load more (omega arith)
base-more names more (suc (suc zero)) load m h = legal-unknown more load ∙ sym (legal-unknown names load) ∙ h
base-more names more (suc (suc (suc t))) load m h = absurd (no-more-tags names load t h)

pub legal-more : (names more w : ℕ) → names ≤ more → legal_word names w ≡ true → legal_word more w ≡ true
unfolding legal_word
legal-more names more w m h = base-more names more (tag_of w) (load_of w) m h

at-base-more : (names more : ℕ) (t : ArgType) → names ≤ more → legal_at_base names t ≡ true → legal_at_base more t ≡ true
unfolding legal_at_base
at-base-more names more (Primitive k) m h = h
at-base-more names more (Object c) m h = let b = ltb-true c names h in lt-ltb c more (omega arith)
at-base-more names more (Array t) m h = at-base-more names more t m h
at-base-more names more (Unknown cs) m h = h

pub legal-type-more : (names more : ℕ) (t : ArgType) → names ≤ more → legal_type names t ≡ true → legal_type more t ≡ true
unfolding legal_type
legal-type-more names more t m h =
    and-both (leb (depth t) 255) (legal_at_base more t)
    (and-left (leb (depth t) 255) (legal_at_base names t) h)
    (at-base-more names more t m (and-right (leb (depth t) 255) (legal_at_base names t) h))
