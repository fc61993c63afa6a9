-- Words, types and their order at work, by computation.
use Rattle.std.specs.Prelude.{◌≡◌, refl, true, false, List, [], ◌∷◌, ℕ}
use Rattle.order.specs.Compare.{compare_numbers, compare_lists}
use Rattle.order.specs.Lists.{elem}
use Rattle.std.specs.declared.cmp.Ordering.TheVariants.{Less, Greater}
use Rattle.ty.specs.Types.{Primitive, Object, Array, Unknown, Void, Boolean, Byte, Short, Char, Int, Long, Float, Double, ObjectCategory, ArrayCategory, arrays, compare}
use Rattle.ty.specs.Words.{unpack, pack, list_of, good_digits, good_unknown, base_of, type_of, word_of, legal_base, legal_word}

-- the categories of the full Unknown, in the order of ArgType::unknown()
abbrev pub full : List ℕ
full = Int ∷ Long ∷ Float ∷ Double ∷ Boolean ∷ Short ∷ Byte ∷ Char ∷ ObjectCategory ∷ ArrayCategory ∷ []

pub examples :
    -- the full Unknown
    (word_of (Unknown full) ≡ 0x0002_a567_8132_49a0)
    × (type_of 0x0002_a567_8132_49a0 ≡ Unknown full)
    -- legal over three names: Unknown of nothing, and of Void
    × (legal_word 3 0x0002_0000_0000_0000 ≡ true)
    × (legal_word 3 0x0002_1000_0000_0000 ≡ true)
    -- not legal: category 11, Int twice, a digit past the list, a list of twelve, tag 3
    × (legal_word 3 0x0002_1b00_0000_0000 ≡ false)
    × (legal_word 3 0x0002_2550_0000_0000 ≡ false)
    × (legal_word 3 0x0002_1500_0000_0001 ≡ false)
    × (legal_word 3 0x0002_c000_0000_0000 ≡ false)
    × (legal_word 3 0x0003_0000_0000_0000 ≡ false)
    -- the last of three names, and one past it; the last category, and one past it
    × (legal_word 3 0x0001_0000_0000_0002 ≡ true)
    × (legal_word 3 0x0001_0000_0000_0003 ≡ false)
    × (legal_word 3 0x0000_0000_0000_000a ≡ true)
    × (legal_word 3 0x0000_0000_0000_000b ≡ false)
    -- an array of Void is legal; all ones, which stands for a missing answer, is not
    × (legal_word 3 0x0100_0000_0000_0000 ≡ true)
    × (legal_word 3 0xffff_ffff_ffff_ffff ≡ false)
    -- [[I is below [Unknown[], though its word is the greater number
    × (type_of 0x0200_0000_0000_0005 ≡ Array (Array (Primitive Int)))
    × (type_of 0x0102_0000_0000_0000 ≡ Array (Unknown []))
    × (compare (Array (Array (Primitive Int))) (Array (Unknown [])) ≡ Less)
    -- Unknown[Int] is above Unknown[Boolean, Int], though its word is the smaller number
    × (type_of 0x0002_1500_0000_0000 ≡ Unknown (Int ∷ []))
    × (type_of 0x0002_2150_0000_0000 ≡ Unknown (Boolean ∷ Int ∷ []))
    × (compare (Unknown (Int ∷ [])) (Unknown (Boolean ∷ Int ∷ [])) ≡ Greater)
    -- a shorter prefix comes first, before Void too; every primitive is below every class
    × (compare (Unknown []) (Unknown (Void ∷ [])) ≡ Less)
    × (compare (Primitive ArrayCategory) (Object 0) ≡ Less)
unfolding word_of pack type_of arrays base_of list_of unpack legal_word legal_base good_unknown good_digits elem compare compare_lists compare_numbers
examples =
    (refl, refl, refl, refl, refl, refl, refl, refl, refl, refl, refl, refl, refl, refl, refl, refl, refl, refl, refl, refl, refl, refl, refl)
