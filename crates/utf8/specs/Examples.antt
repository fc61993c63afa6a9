-- Worked examples of the definitions, by computation.
use Rattle.std.specs.Prelude.{◌≡◌, refl, true, false, [], ◌∷◌}
use Rattle.utf8.specs.Utf8.{table, within, matches, first_match, sequence, scan, valid_prefix, well_formed}

-- NUL in two bytes, a surrogate, the euro sign, a number above 10FFFF, the last character, the empty list, a sequence that is cut off
pub examples :
    (well_formed (0xC0 ∷ 0x80 ∷ []) ≡ false)
    × (well_formed (0xED ∷ 0xA0 ∷ 0x80 ∷ []) ≡ false)
    × (well_formed (0xE2 ∷ 0x82 ∷ 0xAC ∷ []) ≡ true)
    × (well_formed (0xF4 ∷ 0x90 ∷ 0x80 ∷ 0x80 ∷ []) ≡ false)
    × (well_formed (0xF4 ∷ 0x8F ∷ 0xBF ∷ 0xBF ∷ []) ≡ true)
    × (well_formed [] ≡ true)
    × (valid_prefix (0x61 ∷ 0xE2 ∷ 0x82 ∷ []) ≡ 1)
unfolding table within matches first_match sequence scan valid_prefix well_formed
examples = (refl, refl, refl, refl, refl, refl, refl)
