-- One code point is one sequence of table 3-7: the bytes of a scalar value fit a row, and bytes that fit a row are those of a scalar value.
-- And the first code point can be read back from the bytes.
use Rattle.std.specs.Prelude.{◌≡◌, true, cond, ℕ, ◌+◌, ◌-◌, ◌*◌, ltb}
use mathlib.Core.List.Memᴰ
use mathlib.Core.List.{List, Memᴰ}
use Rattle.codepoints.specs.CodePoints.{is_scalar, encode}

-- ---- the bytes of a code point, by its length

-- the choice of `encode`, with any bounds and bytes
abbrev pub choice : ℕ → ℕ → ℕ → ℕ → List ℕ → List ℕ → List ℕ → List ℕ → List ℕ
choice a b d c w x y z = cond (ltb c a) w (cond (ltb c b) x (cond (ltb c d) y z))

-- ---- bytes that fit a row are those of a scalar value

-- the code points of two, three and four bytes
abbrev pub of-two : ℕ → ℕ → ℕ
of-two a b = (a - 0xC0) * 0x40 + (b - 0x80)

abbrev pub of-three : ℕ → ℕ → ℕ → ℕ
of-three a b c = (a - 0xE0) * 0x1000 + (b - 0x80) * 0x40 + (c - 0x80)

abbrev pub of-four : ℕ → ℕ → ℕ → ℕ → ℕ
of-four a b c d = (a - 0xF0) * 0x40000 + (b - 0x80) * 0x1000 + (c - 0x80) * 0x40 + (d - 0x80)

-- the bytes are those of a scalar value
pub record Encoded (xs : List ℕ) : Type 0 where
  pub code : ℕ
  pub scalar : is_scalar code ≡ true
  pub bytes : xs ≡ encode code
