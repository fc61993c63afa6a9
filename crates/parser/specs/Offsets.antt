-- What stands at an offset, the offset after a byte that is asked for, and whether the bytes end there.
use Rattle.std.specs.Prelude.{Bool, true, false, List, ℕ, ◌+◌, eqb, ltb, length, get_or, Option, Some, None}

abbrev pub pick : Bool → Option ℕ → Option ℕ → Option ℕ
pick true a b = a
pick false a b = b

abbrev pub pick_n : Bool → ℕ → ℕ → ℕ
pick_n true a b = a
pick_n false a b = b

-- DescriptorParser::peek
abbrev pub byte_at : List ℕ → ℕ → Option ℕ
byte_at s at = pick (ltb at (length s)) (Some (get_or s at 0)) None

-- DescriptorParser::consume: the offset after the byte b, or the same where another or none stands there
abbrev pub consume_at : List ℕ → ℕ → ℕ → ℕ
consume_at s at b = pick_n (ltb at (length s)) (pick_n (eqb (get_or s at 0) b) (at + 1) at) at

-- DescriptorParser::finish: 15 where bytes are left
abbrev pub finish_at : List ℕ → ℕ → ℕ
finish_at s at = pick_n (eqb at (length s)) 0 15
