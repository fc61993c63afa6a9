-- UTF-8 by code points: the bytes of a number by arithmetic on it, as Unicode's table 3-6 and RFC 3629 have them. Nothing here knows table 3-7.
use Rattle.std.specs.Prelude.{Bool, true, cond, ◌&&◌, ◌||◌, List, [], ◌∷◌, ◌++◌, ℕ, ◌+◌, ◌/◌, ◌%◌, leb, ltb}

-- a scalar value of Unicode: 0 to 10FFFF without the surrogates, D800 to DFFF
unfoldable pub is_scalar : ℕ → Bool
is_scalar c = leb c 0xD7FF || leb 0xE000 c && leb c 0x10FFFF

-- whether all of a list are scalar values
unfoldable pub are_scalars : List ℕ → Bool
are_scalars [] = true
are_scalars (c ∷ cs) = is_scalar c && are_scalars cs

-- a byte after the first: the mark 80 and the last six bits of n
unfoldable pub following : ℕ → ℕ
following n = 0x80 + n % 0x40

-- the bytes of one code point: its bits in groups of six, a mark of the length before the first
unfoldable pub encode : ℕ → List ℕ
encode c =
    cond (ltb c 0x80) (c ∷ [])
    (cond (ltb c 0x800) ((0xC0 + c / 0x40) ∷ following c ∷ [])
    (cond (ltb c 0x10000) ((0xE0 + c / 0x1000) ∷ following (c / 0x40) ∷ following c ∷ [])
    ((0xF0 + c / 0x40000) ∷ following (c / 0x1000) ∷ following (c / 0x40) ∷ following c ∷ [])))

-- the code points of a list, one after the other
unfoldable pub encode_all : List ℕ → List ℕ
encode_all [] = []
encode_all (c ∷ cs) = encode c ++ encode_all cs
