-- A hex line as bytes, and the numbers that the bytes of a frame hold. Every definition that a contract of this crate cites.
use Rattle.std.specs.Prelude.{◌≡◌, Bool, true, false, cond, ◌&&◌, List, [], ◌∷◌, ◌++◌, ℕ, suc, ◌+◌, ◌-◌, ◌*◌, leb, ltb, length, drop, get_or}
use Rattle.std.proofs.Math.Option.{Option, some, none}

-- 0 to 9, a to f
unfoldable pub digit : ℕ → Option ℕ
digit b = cond (leb 48 b && leb b 57) (some (b - 48)) (cond (leb 97 b && leb b 102) (some (b - 87)) none)

abbrev pub byte_then : Option ℕ → Option ℕ → Option (List ℕ) → Option (List ℕ)
byte_then none y rest = none
byte_then (some h) none rest = none
byte_then (some h) (some l) none = none
byte_then (some h) (some l) (some bs) = some ((h * 16 + l) ∷ bs)

-- two digits a byte
unfoldable pub hex_bytes : List ℕ → Option (List ℕ)
hex_bytes [] = some []
hex_bytes (x ∷ []) = none
hex_bytes (x ∷ y ∷ rest) = byte_then (digit x) (digit y) (hex_bytes rest)

-- HEX: odd, not hex, empty, over 512 bytes
unfoldable pub bad_hex : Option (List ℕ) → Bool
bad_hex none = true
bad_hex (some []) = true
bad_hex (some (k ∷ body)) = ltb 512 (suc (length body))

-- two bytes, high first, from place i on
unfoldable pub number_at : ℕ → List ℕ → ℕ
number_at i body = get_or body i 0 * 256 + get_or body (i + 1) 0

unfoldable pub numbers_in : List ℕ → List ℕ
numbers_in [] = []
numbers_in (h ∷ []) = []
numbers_in (h ∷ l ∷ rest) = (h * 256 + l) ∷ numbers_in rest

-- the number of bytes, high first, after a
unfoldable pub bytes_number : ℕ → List ℕ → ℕ
bytes_number a [] = a
bytes_number a (b ∷ bs) = bytes_number (a * 256 + b) bs

-- ---- what the code leaves

-- whether there are bytes, and which
abbrev pub is_hex : Option (List ℕ) → Bool
is_hex none = false
is_hex (some bs) = true

abbrev pub bytes_of : Option (List ℕ) → List ℕ
bytes_of none = []
bytes_of (some bs) = bs

-- the entries l in front; what stands past them stays
abbrev pub in_front : List ℕ → List ℕ → List ℕ
in_front l a = l ++ drop (length l) a

-- a line that HEX refuses is no byte and leaves the slice
pub record Reads (f : Option (List ℕ)) (slice slice' : List ℕ) (r : ℕ) : Type 0 where
  pub count-is : r ≡ cond (bad_hex f) 0 (length (bytes_of f))
  pub slice-is : slice' ≡ cond (bad_hex f) slice (in_front (bytes_of f) slice)
