-- What a set is, and what each operation makes of it: every definition that a contract of this crate cites, and no law.
use Rattle.std.specs.Prelude.{◌≡◌, Bool, true, false, ◌&&◌, List, [], ◌∷◌, ℕ, zero, suc, ◌+◌, ◌/◌, ◌%◌, ◌^◌, ◌<◌, eqb, get_or, set}
use Rattle.std.specs.Int.Bits.{bit_or, bit_and, bit_xor}
use Rattle.std.specs.Int.Count.{under}

-- the digit k of the word w, 0 or 1, the lowest at 0
unfoldable pub bit : ℕ → ℕ → ℕ
bit k w = w / 2 ^ k % 2

-- the digits of a that b has not
unfoldable pub clear : ℕ → ℕ → ℕ
clear a b = bit_xor a (bit_and a b)

-- ---- a set is a list of words of 64 digits: the number i is digit i % 64 of word i / 64

-- each word has 64 digits
abbrev pub Words : List ℕ → Type 0
Words ws = (k : ℕ) → get_or ws k 0 < 2 ^ 64

-- 1 where i is in the set, else 0; a number past the last word is not (`get_or` reads 0 there)
unfoldable pub at : List ℕ → ℕ → ℕ
at ws i = bit (i % 64) (get_or ws (i / 64) 0)

-- whether i is in the set
unfoldable pub member : List ℕ → ℕ → Bool
member ws i = eqb (at ws i) 1

-- every member is below n
abbrev pub MembersBelow : ℕ → List ℕ → Type 0
MembersBelow n s = (c : ℕ) → member s c ≡ true → c < n

-- the set with i; a number past the last word changes nothing (`set` writes nothing there)
unfoldable pub insert : List ℕ → ℕ → List ℕ
insert ws i = set ws (i / 64) (bit_or (get_or ws (i / 64) 0) (2 ^ (i % 64)))

-- the set without i; a number past the last word changes nothing
unfoldable pub remove : List ℕ → ℕ → List ℕ
remove ws i = set ws (i / 64) (clear (get_or ws (i / 64) 0) (2 ^ (i % 64)))

-- f of the words of two sets, word by word
unfoldable pub pairwise : (ℕ → ℕ → ℕ) → List ℕ → List ℕ → List ℕ
pairwise f [] ys = []
pairwise f (x ∷ xs) [] = []
pairwise f (x ∷ xs) (y ∷ ys) = f x y ∷ pairwise f xs ys

-- what is in either set
unfoldable pub unite : List ℕ → List ℕ → List ℕ
unite a b = pairwise bit_or a b

-- what is in both sets
unfoldable pub intersect : List ℕ → List ℕ → List ℕ
intersect a b = pairwise bit_and a b

-- what is in the first set and not in the second
unfoldable pub subtract : List ℕ → List ℕ → List ℕ
subtract a b = pairwise clear a b

-- whether two sets are the same, word by word
unfoldable pub same_words : List ℕ → List ℕ → Bool
same_words [] [] = true
same_words [] (y ∷ ys) = false
same_words (x ∷ xs) [] = false
same_words (x ∷ xs) (y ∷ ys) = eqb x y && same_words xs ys

-- ---- f is 1 at the members and 0 elsewhere, as `at ws` is

-- i before the list r, where the digit is set
abbrev pub keep : ℕ → ℕ → List ℕ → List ℕ
keep zero i r = r
keep (suc d) i r = i ∷ r

-- the members among the n numbers from i on, ascending
unfoldable pub members : (ℕ → ℕ) → ℕ → ℕ → List ℕ
members f i zero = []
members f i (suc n) = keep (f i) i (members f (suc i) n)

-- the number of members below n, as a sum
unfoldable pub tally : (ℕ → ℕ) → ℕ → ℕ
tally f zero = zero
tally f (suc n) = f zero + tally (λ k. f (suc k)) n

-- the least member below n; n where there is none (`under 0 t` is t + 1, `under 1 t` is 0)
unfoldable pub first : (ℕ → ℕ) → ℕ → ℕ
first f zero = zero
first f (suc n) = under (f zero) (first (λ k. f (suc k)) n)
