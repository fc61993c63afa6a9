-- The program as a function from bytes to bytes: lines, one frame a line, what is printed.
use Rattle.std.specs.Prelude.{cond, List, [], ◌∷◌, ◌++◌, ℕ, suc, eqb}
use Rattle.std.proofs.Math.Option.{Option, some, none}
use Rattle.ty.specs.Types.{ArgType}
use Rattle.ty.specs.Words.{word_of}
use Rattle.lineout.specs.Printed.{decimal, hex_digits, printed}
use Rattle.frames.specs.Frames.{Store, empty_store, Said, Accepted, Answers, Related, Supertyped, Castable, Refused, frame}

-- ---- lines: LF ends one, and a last one may lack it

-- a byte in front of the first line
abbrev pub in_front : ℕ → List (List ℕ) → List (List ℕ)
in_front b [] = (b ∷ []) ∷ []
in_front b (l ∷ ls) = (b ∷ l) ∷ ls

unfoldable pub lines_of : List ℕ → List (List ℕ)
lines_of [] = []
lines_of (b ∷ bs) = let rest = lines_of bs in cond (eqb b 10) ([] ∷ rest) (in_front b rest)

-- ---- what is printed

abbrev pub word_or_dash : Option ArgType → List ℕ
word_or_dash none = 45 ∷ []
word_or_dash (some t) = hex_digits 16 (word_of t)

abbrev pub number_or_dash : Option ℕ → List ℕ
number_or_dash none = 45 ∷ []
number_or_dash (some n) = decimal n

unfoldable pub print_answers : ℕ → List (Option ArgType) → List ℕ
print_answers i [] = []
print_answers i (a ∷ rest) = printed 86 (decimal i ++ (32 ∷ word_or_dash a)) ++ print_answers (suc i) rest

unfoldable pub print : ℕ → Said → List ℕ
print line Accepted = []
print line (Answers answers) = print_answers 0 answers
print line (Related n) = printed 82 (decimal n)
print line (Supertyped c) = printed 76 (number_or_dash c)
print line (Castable b) = printed 67 (decimal (cond b 1 0))
print line (Refused k) = printed 69 (decimal line ++ (32 ∷ decimal k))

-- ---- THE PROGRAM

unfoldable pub print_from : ℕ → Store → List (List ℕ) → List ℕ
print_from line s [] = []
print_from line s (l ∷ ls) = print line (frame l s).said ++ print_from (suc line) (frame l s).store ls

unfoldable pub typeline : List ℕ → List ℕ
typeline input = print_from 1 empty_store (lines_of input)
