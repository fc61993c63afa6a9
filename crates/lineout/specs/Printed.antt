-- Numbers and words as the bytes of a text, and a printed line. Every definition that a contract of this crate cites.
use Rattle.std.specs.Prelude.{◌≡◌, cond, List, [], ◌∷◌, ◌++◌, map, ℕ, zero, suc, ◌+◌, ◌-◌, ◌/◌, ◌%◌, ◌^◌, eqb, ltb, length, take, drop}
use Rattle.ty.specs.Words.{unpack}

-- in decimal; the fuel is enough from the number on
unfoldable pub decimal_from : ℕ → ℕ → List ℕ → List ℕ
decimal_from zero n ds = ds
decimal_from (suc fuel) n ds = cond (ltb n 10) ((48 + n) ∷ ds) (decimal_from fuel (n / 10) ((48 + n % 10) ∷ ds))

unfoldable pub decimal : ℕ → List ℕ
decimal n = decimal_from (suc n) n []

abbrev pub hex_digit : ℕ → ℕ
hex_digit d = cond (ltb d 10) (48 + d) (87 + d)

-- the n lowest hex digits, highest first
unfoldable pub hex_digits : ℕ → ℕ → List ℕ
hex_digits n w = map hex_digit (unpack n w)

-- all ones is nothing: a word, or a number
unfoldable pub word_text : ℕ → List ℕ
word_text w = cond (eqb w (2 ^ 64 - 1)) (45 ∷ []) (hex_digits 16 w)

unfoldable pub number_text : ℕ → List ℕ
number_text n = cond (eqb n (2 ^ 64 - 1)) (45 ∷ []) (decimal n)

-- letter, space, what follows, LF
abbrev pub printed : ℕ → List ℕ → List ℕ
printed letter rest = letter ∷ 32 ∷ (rest ++ (10 ∷ []))

-- `V`, the number of a variable and its word
abbrev pub variable_line : ℕ → ℕ → List ℕ
variable_line i w = printed 86 (decimal i ++ (32 ∷ word_text w))

-- a line for each variable, from number i on
unfoldable pub variable_lines : ℕ → List ℕ → List ℕ
variable_lines i [] = []
variable_lines i (w ∷ ws) = variable_line i w ++ variable_lines (i + 1) ws

-- `E`, a line's number and its refusal
abbrev pub refusal_line : ℕ → ℕ → List ℕ
refusal_line line refusal = printed 69 (decimal line ++ (32 ∷ decimal refusal))

-- what a text leaves in a buffer of which the first `filled` bytes wait to be written
pub record Puts (text : List ℕ) (filled : ℕ) (out out' : List ℕ) (r : ℕ) : Type 0 where
  pub filled-is : r ≡ filled + length text
  pub out-is : out' ≡ take filled out ++ (text ++ drop (filled + length text) out)
