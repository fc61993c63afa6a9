-- A ROW OF A PROBLEM ON THE ENTRIES OF ITS KIND, as sorted slices keep them: every definition that a contract of this crate cites. That it
-- is the row of the problem stands in Kept.
use Rattle.std.specs.Prelude.{◌≡◌, cond, ◌&&◌, List, [], ◌∷◌, ◌++◌, ℕ, ◌+◌, ◌*◌, eqb, leb, ltb, length}
use Rattle.sorted.specs.Sorted.{put}
use Rattle.ty.specs.Words.{legal_word, type_of}
use Rattle.keys.specs.Rank.{key}
use Rattle.rows.specs.Rows.{filled}
use Rattle.problemrows.specs.declared.Added.{Added}

-- a refusal, and the entries after it
pub record Ran : Type 0 where
  pub refusal : ℕ
  pub entries : List ℕ

abbrev pub refused : ℕ → List ℕ → Ran
refused k l = record { refusal = k; entries = l }

abbrev pub taken : List ℕ → Ran
taken l = record { refusal = 0; entries = l }

-- ---- the count, and a variable, of which there are n

unfoldable pub count_refusal : ℕ → ℕ
count_refusal components = cond (ltb 512 components) 8 0

unfoldable pub variable_refusal : ℕ → ℕ → ℕ → ℕ
variable_refusal components n c = cond (ltb c components) (cond (leb 2048 n) 8 0) 6

unfoldable pub variable_row : ℕ → ℕ → List ℕ → Ran
variable_row components c l = cond (eqb (variable_refusal components (length l) c) 0) (taken (l ++ (c ∷ []))) (refused (variable_refusal components (length l) c) l)

-- ---- sorted entries, of which there may be `room`

unfoldable pub entry_row : ℕ → ℕ → List ℕ → Ran
entry_row room x l = cond (ltb room (length (put x l))) (refused 8 l) (taken (put x l))

unfoldable pub pair_row : ℕ → ℕ → ℕ → ℕ → List ℕ → Ran
pair_row components room a b l = cond (ltb a components && ltb b components) (entry_row room (a * 512 + b) l) (refused 6 l)

unfoldable pub bound_row : ℕ → ℕ → ℕ → ℕ → ℕ → List ℕ → Ran
bound_row names components c k w l = cond (ltb c components && leb k 4) (cond (legal_word names w) (entry_row 4096 (key c k (type_of w)) l) (refused 7 l)) (refused 6 l)

-- ---- in a slice

-- WHAT A RESULT AND A SLICE HOLD AFTER A ROW: the entries in front of the slice as it came
pub record Adds (after : Ran) (a a' : List ℕ) (r : Added) : Type 0 where
  pub added-is : r ≡ record { refusal = after.refusal; count = length after.entries }
  pub entries-are : a' ≡ filled after.entries a
