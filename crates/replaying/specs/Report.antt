-- The report of a program: a line for each name with its two counts, one for lines that are no case, and one for all.
use Rattle.std.specs.Prelude.{ℕ, zero, suc, ◌+◌, ◌*◌, ◌%◌, ◌^◌, cond, ◌&&◌, List, [], ◌∷◌, ◌++◌, length, ◌==◌, nat_le, slice_index}
use Rattle.lineout.specs.Printed.{decimal}

-- a blank and a number
abbrev pub field : ℕ → List ℕ
field n = 32 ∷ decimal n

-- what stands behind a name, to the end of the line: the cases that agree, and all
abbrev pub counts_text : ℕ → ℕ → List ℕ
counts_text agree all = field agree ++ (field all ++ (10 ∷ []))

-- the two counts of name k
abbrev pub counts_of : List ℕ → ℕ → List ℕ
counts_of counts k = counts_text (slice_index counts (2 * k)) (slice_index counts (2 * k + 1))

-- a byte of name k, or the blank after it: its counts; and the name that goes on behind it
abbrev pub next_text : List ℕ → ℕ → ℕ → List ℕ
next_text counts k b = cond (b == 32) (counts_of counts k) (b ∷ [])

abbrev pub next_name : ℕ → ℕ → ℕ
next_name k b = cond (b == 32) (k + 1) k

-- names with a blank between, each with its counts, where the first is name k
unfoldable pub names_text : List ℕ → ℕ → List ℕ → List ℕ
names_text counts k [] = counts_of counts k
names_text counts k (b ∷ names) = next_text counts k b ++ names_text counts (next_name k b) names

-- how many they are
unfoldable pub names_in : List ℕ → ℕ
names_in [] = 1
names_in (b ∷ names) = cond (b == 32) (suc (names_in names)) (names_in names)

-- of n functions the count that is the first or, after 1, the second of each, as words add up
unfoldable pub total : List ℕ → ℕ → ℕ → ℕ
total counts first zero = 0
total counts first (suc n) = (total counts first n + slice_index counts (2 * n + first)) % 2 ^ 64

-- the counts of the last two lines: no line that is no case agrees, and each is one of all
abbrev pub sums_of : List ℕ → ℕ → List ℕ
sums_of counts n = 0 ∷ slice_index counts 127 ∷ total counts 0 n ∷ ((total counts 1 n + slice_index counts 127) % 2 ^ 64) ∷ []

-- "unread all"
abbrev pub unread_all : List ℕ
unread_all = 117 ∷ 110 ∷ 114 ∷ 101 ∷ 97 ∷ 100 ∷ 32 ∷ 97 ∷ 108 ∷ 108 ∷ []

-- THE REPORT
unfoldable pub report_of : List ℕ → List ℕ → List ℕ
report_of names counts = names_text counts 0 names ++ names_text (sums_of counts (names_in names)) 0 unread_all

-- in a buffer of so many bytes; none where there may be no room
unfoldable pub report_in : List ℕ → List ℕ → ℕ → List ℕ
report_in names counts room = cond (nat_le (length names) 128 && nat_le 8192 room) (report_of names counts) []
