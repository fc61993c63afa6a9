-- Names and terminals as text: `ascii "java/lang/Object"` is the list of its bytes, and computes.
use Rattle.std.specs.Prelude.{◌≡◌, refl, List, ℕ}
use mathlib.Core.List as list
use Prim.Native.Char.{Char, code}
use Prim.Native.String.{String, [], ◌∷◌}

-- the byte of an ASCII character
abbrev pub byte : Char → ℕ
byte c = code c

-- the numbers of a text's characters: of an ASCII text, its bytes
unfoldable pub ascii : String → List ℕ
ascii [] = list.[]
ascii (c ∷ cs) = list.◌∷◌ (code c) (ascii cs)

pub an-array-of-void : ascii "[V" ≡ list.◌∷◌ 91 (list.◌∷◌ 86 list.[])
unfolding ascii
an-array-of-void = refl
