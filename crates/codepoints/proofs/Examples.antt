-- Worked examples by computation: the first and the last code point of each length, those beside the surrogates, and bytes that encode nothing.
use Rattle.std.specs.Prelude.{◌≡◌, refl, true, false, [], ◌∷◌}
use Rattle.utf8.specs.Utf8.{table, within, matches, first_match, sequence, scan, valid_prefix, well_formed}
use Rattle.codepoints.specs.CodePoints.{is_scalar, following, encode, encode_all}

pub encoded :
    (encode 0 ≡ 0 ∷ [])
    × (encode 0x7F ≡ 0x7F ∷ [])
    × (encode 0x80 ≡ 0xC2 ∷ 0x80 ∷ [])
    × (encode 0x7FF ≡ 0xDF ∷ 0xBF ∷ [])
    × (encode 0x800 ≡ 0xE0 ∷ 0xA0 ∷ 0x80 ∷ [])
    × (encode 0xD7FF ≡ 0xED ∷ 0x9F ∷ 0xBF ∷ [])
    × (encode 0xE000 ≡ 0xEE ∷ 0x80 ∷ 0x80 ∷ [])
    × (encode 0xFFFF ≡ 0xEF ∷ 0xBF ∷ 0xBF ∷ [])
    × (encode 0x10000 ≡ 0xF0 ∷ 0x90 ∷ 0x80 ∷ 0x80 ∷ [])
    × (encode 0x10FFFF ≡ 0xF4 ∷ 0x8F ∷ 0xBF ∷ 0xBF ∷ [])
unfolding encode following
encoded = (refl, refl, refl, refl, refl, refl, refl, refl, refl, refl)

-- 'a', the euro sign, a face, one after the other
pub encoded-all : encode_all (0x61 ∷ 0x20AC ∷ 0x1F600 ∷ []) ≡ 0x61 ∷ 0xE2 ∷ 0x82 ∷ 0xAC ∷ 0xF0 ∷ 0x9F ∷ 0x98 ∷ 0x80 ∷ []
unfolding encode_all encode following
encoded-all = refl

pub scalars :
    (is_scalar 0 ≡ true)
    × (is_scalar 0xD7FF ≡ true)
    × (is_scalar 0xD800 ≡ false)
    × (is_scalar 0xDFFF ≡ false)
    × (is_scalar 0xE000 ≡ true)
    × (is_scalar 0x10FFFF ≡ true)
    × (is_scalar 0x110000 ≡ false)
unfolding is_scalar
scalars = (refl, refl, refl, refl, refl, refl, refl)

-- NUL in two bytes, the first surrogate, 110000, a first byte of no sequence: of the last three, the arithmetic alone would make bytes
pub malformed :
    (well_formed (0xC0 ∷ 0x80 ∷ []) ≡ false)
    × (well_formed (encode 0xD800) ≡ false)
    × (well_formed (encode 0x110000) ≡ false)
    × (well_formed (encode 0x140000) ≡ false)
    × (encode 0xD800 ≡ 0xED ∷ 0xA0 ∷ 0x80 ∷ [])
    × (encode 0x110000 ≡ 0xF4 ∷ 0x90 ∷ 0x80 ∷ 0x80 ∷ [])
    × (encode 0x140000 ≡ 0xF5 ∷ 0x80 ∷ 0x80 ∷ 0x80 ∷ [])
unfolding table within matches first_match sequence scan valid_prefix well_formed encode following
malformed = (refl, refl, refl, refl, refl, refl, refl)
