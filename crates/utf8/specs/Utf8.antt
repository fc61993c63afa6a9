-- Well-formed UTF-8 by Unicode's table 3-7, over lists of bytes: as a computation and, apart from it, as a relation.
use Rattle.std.specs.Prelude.{Bool, true, false, cond, ◌&&◌, ℕ, zero, suc, ◌≤◌, eqb, leb, ltb, length}
use mathlib.Core.List.{List, [], ◌∷◌, ◌++◌, Memᴰ}

infix 70 ◌‥◌
-- the bytes from lo to hi, both included
pub record Range : Type 0 where
  pub lo : ℕ
  pub hi : ℕ

abbrev pub ◌‥◌ : ℕ → ℕ → Range
a ‥ b = record { lo = a; hi = b }

-- Unicode's table 3-7: a row for each kind of sequence, a range for each of its bytes
unfoldable pub table : List (List Range)
table =
    (0x00 ‥ 0x7F ∷ [])
    ∷ (0xC2 ‥ 0xDF ∷ 0x80 ‥ 0xBF ∷ [])
    ∷ (0xE0 ‥ 0xE0 ∷ 0xA0 ‥ 0xBF ∷ 0x80 ‥ 0xBF ∷ [])
    ∷ (0xE1 ‥ 0xEC ∷ 0x80 ‥ 0xBF ∷ 0x80 ‥ 0xBF ∷ [])
    ∷ (0xED ‥ 0xED ∷ 0x80 ‥ 0x9F ∷ 0x80 ‥ 0xBF ∷ [])
    ∷ (0xEE ‥ 0xEF ∷ 0x80 ‥ 0xBF ∷ 0x80 ‥ 0xBF ∷ [])
    ∷ (0xF0 ‥ 0xF0 ∷ 0x90 ‥ 0xBF ∷ 0x80 ‥ 0xBF ∷ 0x80 ‥ 0xBF ∷ [])
    ∷ (0xF1 ‥ 0xF3 ∷ 0x80 ‥ 0xBF ∷ 0x80 ‥ 0xBF ∷ 0x80 ‥ 0xBF ∷ [])
    ∷ (0xF4 ‥ 0xF4 ∷ 0x80 ‥ 0x8F ∷ 0x80 ‥ 0xBF ∷ 0x80 ‥ 0xBF ∷ [])
    ∷ []

-- ---- the computation

unfoldable pub within : Range → ℕ → Bool
within r b = leb r.lo b && leb b r.hi

-- whether the first bytes lie in the row's ranges
unfoldable pub matches : List Range → List ℕ → Bool
matches [] bs = true
matches (r ∷ row) [] = false
matches (r ∷ row) (b ∷ bs) = within r b && matches row bs

-- the length of the first of the rows that matches; 0 where none does
unfoldable pub first_match : List (List Range) → List ℕ → ℕ
first_match [] bs = 0
first_match (row ∷ rows) bs = cond (matches row bs) (length row) (first_match rows bs)

-- the length of the sequence at the front; 0 where none stands there
unfoldable pub sequence : List ℕ → ℕ
sequence bs = first_match table bs

-- from a sequence of n bytes, its first byte and what comes of passing the others; nothing where n is 0
abbrev pub passing : ℕ → (ℕ → ℕ) → ℕ
passing zero pass = 0
passing (suc n) pass = suc (pass n)

-- how many bytes of whole sequences stand at the front, where the first k end a sequence that has begun
unfoldable pub scan : List ℕ → ℕ → ℕ
scan [] k = 0
scan (b ∷ bs) zero = passing (sequence (b ∷ bs)) (scan bs)
scan (b ∷ bs) (suc k) = suc (scan bs k)

-- the length of the longest prefix of whole sequences
unfoldable pub valid_prefix : List ℕ → ℕ
valid_prefix bs = scan bs 0

-- whether all bytes are below 80
unfoldable pub ascii : List ℕ → Bool
ascii [] = true
ascii (b ∷ bs) = ltb b 0x80 && ascii bs

unfoldable pub well_formed : List ℕ → Bool
well_formed bs = eqb (valid_prefix bs) (length bs)

-- ---- the relation

-- the bytes are those of one sequence of the row: one byte in each range
pub data Fits : List Range → List ℕ → Type 0 where
  done : Fits [] []
  next : {r : Range} {row : List Range} {b : ℕ} {bs : List ℕ} → r.lo ≤ b → b ≤ r.hi → Fits row bs → Fits (r ∷ row) (b ∷ bs)

-- the bytes are sequences of rows of the table, one after the other
pub data WellFormed : List ℕ → Type 0 where
  empty : WellFormed []
  more : {row : List Range} {xs ys : List ℕ} → Memᴰ row table → Fits row xs → WellFormed ys → WellFormed (xs ++ ys)
