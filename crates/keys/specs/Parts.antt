-- The rank and the word of a type by their parts, as the code puts one together from the other.
use Rattle.std.specs.Prelude.{◌≡◌, refl, Bool, true, false, cond, List, [], ◌∷◌, map, ℕ, zero, suc, ◌+◌, ◌-◌, ◌*◌, ◌/◌, ◌%◌, ◌^◌, ◌≤◌, ◌<◌, ltb, length, replicate}
use Rattle.std.proofs.Common.{sym, ap₂, ◌∙◌, true≢false, suc-mul, mod-lt, leb-true, ltb-true, ltb-false}
use Rattle.std.proofs.Math.Path.{ap}
use native.Mathlib.Omega.{arith}
use Rattle.ty.specs.Types.{ArgType, Primitive, Object, Unknown, arrays}
use Rattle.ty.specs.Words.{Legal, dims_of, tag_of, load_of, pack, unpack, list_of, good_unknown, base_of, type_of, word_of, legal_base, legal_word}
use Rattle.ty.specs.Digits.{Digits, pack-lt}
use Rattle.ty.specs.Distinct.{distinct-length}
use Rattle.ty.specs.Round.{legal-primitive, legal-object, legal-unknown, legal-none, list_load, list-distinct, list-length, load-of-list, legal-of-word, word-of-type, arrays-word}
use Rattle.keys.specs.Rank.{rank, digits_of, trim, members_of, known_base, unrank, key, key_type}
use Rattle.keys.specs.Laws.{deeper-known, deeper-unknown, unrank-known, unrank-unknown, unrank-rank, key-type, rank-lt}

-- ---- the rank of a word's type

known-arrays : (d : ℕ) (t : ArgType) → d * 2 ^ 11 + rank t < 2 ^ 19 → rank (arrays d t) ≡ d * 2 ^ 11 + rank t
unfolding arrays rank
known-arrays zero t h = omega arith
known-arrays (suc d) t h =
    let e = known-arrays d t (omega arith) in
    omega (arith, deeper-known (rank (arrays d t)) (omega arith))

unknown-arrays : (d : ℕ) (cs : List ℕ) → d ≤ 255 → rank (arrays d (Unknown cs)) ≡ 2 ^ 19 + ((255 - d) * 2 ^ 44 + digits_of cs)
unfolding arrays rank
unknown-arrays zero cs h = refl
unknown-arrays (suc d) cs h =
    let e = unknown-arrays d cs (omega arith) in
    omega (arith, deeper-unknown (rank (arrays d (Unknown cs))) (omega arith))

known-base : (tag load : ℕ) → legal_base 1024 tag load ≡ true → tag < 2 → (load < 1024) × (rank (base_of tag load) ≡ tag * 2 ^ 10 + load)
unfolding base_of rank
known-base zero load h l = (omega (arith, leb-true load 10 (sym (legal-primitive 1024 load) ∙ h)), omega arith)
known-base (suc zero) load h l = (ltb-true load 1024 (sym (legal-object 1024 load) ∙ h), omega arith)
known-base (suc (suc tag)) load h l = absurd (omega arith)

-- a legal tag that is not one of these is Unknown's
unknown-base : (tag load : ℕ) → legal_base 1024 tag load ≡ true → 2 ≤ tag → (good_unknown load ≡ true) × (base_of tag load ≡ Unknown (list_of load))
unfolding base_of
unknown-base zero load h l = absurd (omega arith)
unknown-base (suc zero) load h l = absurd (omega arith)
unknown-base (suc (suc zero)) load h l = (sym (legal-unknown 1024 load) ∙ h, refl)
unknown-base (suc (suc (suc tag))) load h l = absurd (true≢false (sym h ∙ legal-none 1024 load (suc (suc (suc tag))) (omega arith)))

-- to raise each digit is to add a one to each
raised-sum : (n : ℕ) (cs : List ℕ) → pack n (map suc cs) ≡ pack n cs + pack n (replicate (length cs) 1)
unfolding pack
raised-sum zero cs = refl
raised-sum (suc n) [] = refl
raised-sum (suc n) (c ∷ cs) = omega (arith, raised-sum n cs, suc-mul c (2 ^ (4 * n)))

raised-load : (load : ℕ) → good_unknown load ≡ true → digits_of (list_of load) ≡ load % 2 ^ 44 + pack 11 (replicate (load / 2 ^ 44) 1)
unfolding digits_of
raised-load load h =
    let n = list-length load h in
    let p = load-of-list load h in
    raised-sum 11 (list_of load)
    ∙ ap₂ (λ (x k : ℕ). x + pack 11 (replicate k 1)) (let e : pack 11 (list_of load) ≡ load % 2 ^ 44 = omega arith in e) n

module _ (w : ℕ) (fits : w < 2 ^ 64) (legal : Legal w) where
  module _ (tag : tag_of w < 2) where
    known-load : load_of w < 1024
    unfolding legal_word
    known-load = (known-base (tag_of w) (load_of w) legal tag).0

    pub rank-known : rank (type_of w) ≡ dims_of w * 2 ^ 11 + tag_of w * 2 ^ 10 + load_of w
    unfolding legal_word type_of
    rank-known =
        let l = known-load in
        let b = (known-base (tag_of w) (load_of w) legal tag).1 in
        omega (arith, known-arrays (dims_of w) (base_of (tag_of w) (load_of w)) (omega arith))

  module _ (tag : 2 ≤ tag_of w) where
    pub unknown-length : load_of w / 2 ^ 44 < 12
    unfolding legal_word
    unknown-length =
        let g = (unknown-base (tag_of w) (load_of w) legal tag).0 in
        omega (arith, list-length (load_of w) g, distinct-length (list_of (load_of w)) (list-distinct (load_of w) g))

    pub rank-unknown : rank (type_of w) ≡ 2 ^ 19 + (255 - dims_of w) * 2 ^ 44 + load_of w % 2 ^ 44 + pack 11 (replicate (load_of w / 2 ^ 44) 1)
    unfolding legal_word type_of
    rank-unknown =
        let b = unknown-base (tag_of w) (load_of w) legal tag in
        let r = raised-load (load_of w) b.0 in
        let a = unknown-arrays (dims_of w) (list_of (load_of w)) (omega arith) in
        ap (λ (t : ArgType). rank (arrays (dims_of w) t)) b.1 ∙ omega arith

-- ---- the word of a rank's type

word-base : (b : ℕ) → b < 2 ^ 11 → word_of (known_base b) ≡ b / 2 ^ 10 * 2 ^ 48 + b % 2 ^ 10
unfolding word_of known_base
word-base b h = go (ltb b (2 ^ 10)) refl
  where
    go : (t : Bool) → ltb b (2 ^ 10) ≡ t → word_of (cond t (Primitive b) (Object (b - 2 ^ 10))) ≡ b / 2 ^ 10 * 2 ^ 48 + b % 2 ^ 10
    go true e = omega (arith, ltb-true b (2 ^ 10) e)
    go false e = omega (arith, ltb-false b (2 ^ 10) e)

pub known-word : (r : ℕ) → r < 2 ^ 19 → word_of (unrank r) ≡ r / 2 ^ 11 * 2 ^ 56 + r % 2 ^ 11 / 2 ^ 10 * 2 ^ 48 + r % 2 ^ 10
known-word r h =
    ap word_of (unrank-known r h)
    ∙ arrays-word (r / 2 ^ 11) (known_base (r % 2 ^ 11))
    ∙ grouped (r / 2 ^ 11 * 2 ^ 56) (r % 2 ^ 11 / 2 ^ 10 * 2 ^ 48) (word-base (r % 2 ^ 11) (omega arith)) (omega arith)
  where
    grouped : (x y : ℕ) {a b c : ℕ} → a ≡ y + b → b ≡ c → x + a ≡ x + y + c
    grouped x y e f = omega arith

pub unknown-word : (r : ℕ) → 2 ^ 19 ≤ r
    → word_of (unrank r) ≡ (255 - (r - 2 ^ 19) / 2 ^ 44) * 2 ^ 56 + 2 * 2 ^ 48 + list_load (members_of ((r - 2 ^ 19) % 2 ^ 44))
unfolding word_of
unknown-word r h =
    ap word_of (unrank-unknown r h)
    ∙ omega (arith, arrays-word (255 - (r - 2 ^ 19) / 2 ^ 44) (Unknown (members_of ((r - 2 ^ 19) % 2 ^ 44))))

-- ---- the digits of any number, trimmed, make a payload that fits

unpack-digits : (n x : ℕ) → Digits (unpack n x)
unfolding unpack
unpack-digits zero x = tt
unpack-digits (suc n) x = (mod-lt (x / 2 ^ (4 * n)) (omega arith), unpack-digits n x)

trim-digits : (ds : List ℕ) → Digits ds → Digits (trim ds)
unfolding trim
trim-digits [] h = tt
trim-digits (zero ∷ ds) h = tt
trim-digits (suc d ∷ ds) h = (let l = h.0 in omega arith, trim-digits ds h.1)

trim-length : (n x : ℕ) → length (trim (unpack n x)) ≤ n
unfolding unpack trim
trim-length zero x = omega arith
trim-length (suc n) x = go (x / 2 ^ (4 * n) % 16) (trim-length n x)
  where
    go : (d : ℕ) → length (trim (unpack n x)) ≤ n → length (trim (d ∷ unpack n x)) ≤ suc n
    go zero h = omega arith
    go (suc d) h = omega arith

pub members-lt : (x : ℕ) → list_load (members_of x) < 2 ^ 48
unfolding members_of
members-lt x = omega (arith, trim-length 11 x, pack-lt 11 (trim (unpack 11 x)) (trim-digits (unpack 11 x) (unpack-digits 11 x)))

-- ---- a legal word comes back from its rank, and from a key

module _ (w : ℕ) (fits : w < 2 ^ 64) (legal : Legal w) where
  pub word-of-rank : word_of (unrank (rank (type_of w))) ≡ w
  word-of-rank = ap word_of (unrank-rank (type_of w) (legal-of-word 1024 w fits legal)) ∙ word-of-type 1024 w legal

  pub word-of-key : (component kind : ℕ) → kind < 8 → word_of (key_type (key component kind (type_of w))) ≡ w
  word-of-key component kind h =
      ap word_of (key-type component kind (type_of w) h (legal-of-word 1024 w fits legal)) ∙ word-of-type 1024 w legal

-- the rank of a legal word has room in a key
pub rank-fits : (w r : ℕ) → w < 2 ^ 64 → Legal w → r ≡ rank (type_of w) → r < 2 ^ 52
rank-fits w r f l e = let h = rank-lt (type_of w) (legal-of-word 1024 w f l) in omega arith
