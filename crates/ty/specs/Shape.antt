-- One array more is 2 ^ 56 more in the word: what that does to the word's type, its parts and whether it is legal.
use Rattle.std.specs.Prelude.{◌≡◌, ℕ, suc, ◌+◌, ◌-◌, ◌^◌, ◌≤◌, ◌<◌}
use Rattle.std.proofs.Common.{sym, ap, ◌∙◌, add_comm, arith}
use Rattle.ty.specs.Types.{ArgType, Array, arrays}
use Rattle.ty.specs.Words.{dims_of, tag_of, load_of, base_of, type_of, word_of, legal_word}

-- ---- the parts of the word with one dimension more

pub dims-deeper : (w : ℕ) → dims_of (w + 2 ^ 56) ≡ suc (dims_of w)
dims-deeper w = omega arith

pub tag-deeper : (w : ℕ) → tag_of (w + 2 ^ 56) ≡ tag_of w
tag-deeper w = omega arith

pub load-deeper : (w : ℕ) → load_of (w + 2 ^ 56) ≡ load_of w
load-deeper w = omega arith

-- ---- its type

pub type-deeper : (w : ℕ) → type_of (w + 2 ^ 56) ≡ Array (type_of w)
unfolding type_of arrays
type-deeper w = rw (dims-deeper w, tag-deeper w, load-deeper w)

-- a word with a dimension is one with a dimension more than its element
element-word : (w : ℕ) → 2 ^ 56 ≤ w → w ≡ w - 2 ^ 56 + 2 ^ 56
element-word w h = omega arith

pub type-array : (w : ℕ) → 2 ^ 56 ≤ w → type_of w ≡ Array (type_of (w - 2 ^ 56))
type-array w h = ap type_of (element-word w h) ∙ type-deeper (w - 2 ^ 56)

pub type-flat : (w : ℕ) → w < 2 ^ 56 → type_of w ≡ base_of (tag_of w) (load_of w)
unfolding type_of arrays
type-flat w h = ap (λ (d : ℕ). arrays d (base_of (tag_of w) (load_of w))) (let e : dims_of w ≡ 0 = omega arith in e)

pub word-deeper : (t : ArgType) → word_of (Array t) ≡ word_of t + 2 ^ 56
unfolding word_of
word-deeper t = add_comm (2 ^ 56) (word_of t)

-- ---- whether it is legal: dimensions do not count

pub legal-deeper : (names w : ℕ) → legal_word names (w + 2 ^ 56) ≡ legal_word names w
unfolding legal_word
legal-deeper names w = rw (tag-deeper w, load-deeper w)

pub legal-element : (names w : ℕ) → 2 ^ 56 ≤ w → legal_word names (w - 2 ^ 56) ≡ legal_word names w
legal-element names w h = sym (ap (legal_word names) (element-word w h) ∙ legal-deeper names (w - 2 ^ 56))
