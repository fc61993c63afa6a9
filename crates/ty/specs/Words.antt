-- The type word: two hex digits of dimensions, two of tag, twelve of payload. Which words are legal, what type a word
-- stands for, and the word of a type.
use Rattle.std.specs.Prelude.{◌≡◌, Bool, true, not, ◌&&◌, ◌||◌, List, [], ◌∷◌, ℕ, zero, suc, ◌+◌, ◌*◌, ◌/◌, ◌%◌, ◌^◌, eqb, leb, ltb, length, take}
use Rattle.order.specs.Lists.{elem}
use Rattle.ty.specs.Types.{ArgType, Primitive, Object, Array, Unknown, arrays, depth}

-- ---- the parts of a word

-- what one dimension adds to a word, one step of the tag, and one of the length of an Unknown's list
abbrev pub dimension : ℕ
dimension = 2 ^ 56

abbrev pub tag_step : ℕ
tag_step = 2 ^ 48

abbrev pub length_step : ℕ
length_step = 2 ^ 44

abbrev pub dims_of : ℕ → ℕ
dims_of w = w / dimension

abbrev pub tag_of : ℕ → ℕ
tag_of w = w / tag_step % 256

abbrev pub load_of : ℕ → ℕ
load_of w = w % tag_step

-- ---- an Unknown's payload: a digit for the length, then a digit for each category, eleven in all

-- the n lowest hex digits, highest first
unfoldable pub unpack : ℕ → ℕ → List ℕ
unpack zero x = []
unpack (suc n) x = x / 2 ^ (4 * n) % 16 ∷ unpack n x

-- the number of a list's digits, n places, highest first; what is missing is 0
unfoldable pub pack : ℕ → List ℕ → ℕ
pack zero ds = zero
pack (suc n) [] = zero
pack (suc n) (d ∷ ds) = d * 2 ^ (4 * n) + pack n ds

unfoldable pub list_of : ℕ → List ℕ
list_of load = take (load / length_step) (unpack 11 load)

-- n categories, none twice, and zeros after them
unfoldable pub good_digits : ℕ → List ℕ → Bool
good_digits n [] = true
good_digits zero (d ∷ ds) = eqb d 0 && good_digits zero ds
good_digits (suc n) (d ∷ ds) = leb d 10 && (not (elem d (take n ds)) && good_digits n ds)

unfoldable pub good_unknown : ℕ → Bool
good_unknown load = leb (load / length_step) 11 && good_digits (load / length_step) (unpack 11 load)

-- ---- words and types

-- a word's type; of a word that is not legal, some type
unfoldable pub base_of : ℕ → ℕ → ArgType
base_of zero load = Primitive load
base_of (suc zero) load = Object load
base_of (suc (suc t)) load = Unknown (list_of load)

unfoldable pub type_of : ℕ → ArgType
type_of w = arrays (dims_of w) (base_of (tag_of w) (load_of w))

-- a type's word
unfoldable pub word_of : ArgType → ℕ
word_of (Primitive k) = k
word_of (Object c) = tag_step + c
word_of (Array t) = dimension + word_of t
word_of (Unknown cs) = 2 * tag_step + (length cs * length_step + pack 11 cs)

-- the refusal of a word that is no type
abbrev pub no_type : ℕ
no_type = 7

-- whether a word is one of a type over that many names: refusal 7 is for the others
unfoldable pub legal_base : ℕ → ℕ → ℕ → Bool
legal_base names tag load =
    (eqb tag 0 && leb load 10) || ((eqb tag 1 && ltb load names) || (eqb tag 2 && good_unknown load))

unfoldable pub legal_word : ℕ → ℕ → Bool
legal_word names w = legal_base names (tag_of w) (load_of w)

-- the same of each word of a list
unfoldable pub all_legal : ℕ → List ℕ → Bool
all_legal names [] = true
all_legal names (w ∷ ws) = legal_word names w && all_legal names ws

-- whether a type is within the limits: categories up to 10 and none twice in a list, classes that are names, 255 dimensions
unfoldable pub distinct : List ℕ → Bool
distinct [] = true
distinct (c ∷ cs) = leb c 10 && (not (elem c cs) && distinct cs)

unfoldable pub legal_at_base : ℕ → ArgType → Bool
legal_at_base names (Primitive k) = leb k 10
legal_at_base names (Object c) = ltb c names
legal_at_base names (Array t) = legal_at_base names t
legal_at_base names (Unknown cs) = distinct cs

unfoldable pub legal_type : ℕ → ArgType → Bool
legal_type names t = leb (depth t) 255 && legal_at_base names t

-- what the functions that lean on a word's form require: every caller has checked its words against at most 1,024 names
abbrev pub Legal : ℕ → Type 0
Legal w = legal_word 1024 w ≡ true
