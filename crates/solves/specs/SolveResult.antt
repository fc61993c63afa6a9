-- WHAT A SOLVE LEAVES IN THE SLICES THAT A CALLER LENDS, and hands back.
use Rattle.std.specs.Prelude.{◌≡◌, List, map, ℕ, ◌≤◌, length, replicate}
use Rattle.ty.specs.Words.{word_of}
use Rattle.rows.specs.Rows.{filled}
use Rattle.solving.specs.declared.Counts.{Counts}
use Rattle.solving.specs.Solving.{Bound, room, Solution, Unsolved, Solved}
use Rattle.solver.specs.Solver.{counted}
use Rattle.answering.specs.Answering.{answer_word}
use Rattle.lending.specs.Lending.{MutSliceIn, MutSlice, came_mut, became}

-- the slices: a word a variable; the final bounds in three columns; the work
pub record Lent : Type 0 where
  pub answers : List ℕ
  pub components : List ℕ
  pub kinds : List ℕ
  pub types : List ℕ
  pub work : List ℕ

abbrev pub lent : List ℕ → List ℕ → List ℕ → List ℕ → List ℕ → Lent
lent answers components kinds types work = record { answers = answers; components = components; kinds = kinds; types = types; work = work }

-- the slices that a function is lent, as `requires` has them; as they came; and as they are left
abbrev pub lent_asked : (answers components kinds types work : MutSliceIn) → Lent
lent_asked answers components kinds types work = lent answers.now components.now kinds.now types.now work.now

abbrev pub lent_by : (answers components kinds types work : MutSlice) → Lent
lent_by answers components kinds types work = lent (came_mut answers) (came_mut components) (came_mut kinds) (came_mut types) (came_mut work)

abbrev pub left_by : (answers components kinds types work : MutSlice) → Lent
left_by answers components kinds types work = lent (became answers) (became components) (became kinds) (became types) (became work)

-- how long they must be for so many variables
pub record Roomy (variables : ℕ) (l : Lent) : Type 0 where
  pub answers : variables ≤ length l.answers
  pub components : room ≤ length l.components
  pub kinds : room ≤ length l.kinds
  pub types : room ≤ length l.types
  pub work : 8192 ≤ length l.work

-- ---- the result

-- a refused solve is its number and zeros
unfoldable pub counts_of : Solution → Counts
counts_of (Unsolved k) = counted k 0 0
counts_of (Solved table turns answers) = counted 0 (length table) turns

-- ---- the slices afterwards: a refused solve leaves them as they came, another fills the front and leaves the rest

unfoldable pub answers_after : Solution → List ℕ → List ℕ
answers_after (Unsolved k) slice = slice
answers_after (Solved table turns answers) slice = filled (map answer_word answers) slice

-- one number of each final bound, in the table's order
abbrev pub column_after : (Bound → ℕ) → Solution → List ℕ → List ℕ
column_after part (Unsolved k) slice = slice
column_after part (Solved table turns answers) slice = filled (map part table) slice

unfoldable pub components_after : Solution → List ℕ → List ℕ
components_after = column_after (λ b. b.component)

unfoldable pub kinds_after : Solution → List ℕ → List ℕ
kinds_after = column_after (λ b. b.kind)

unfoldable pub types_after : Solution → List ℕ → List ℕ
types_after = column_after (λ b. word_of b.type)

-- WHAT A SOLVE LEAVES: whatever it came to, all of the work is zero
pub record Solves (s : Solution) (before after : Lent) (r : Counts) : Type 0 where
  pub counts : r ≡ counts_of s
  pub answers : after.answers ≡ answers_after s before.answers
  pub components : after.components ≡ components_after s before.components
  pub kinds : after.kinds ≡ kinds_after s before.kinds
  pub types : after.types ≡ types_after s before.types
  pub work : after.work ≡ replicate (length before.work) 0

-- of the slices that a function is lent
abbrev pub SolvesBy : Solution → (answers components kinds types work : MutSlice) → Counts → Type 0
SolvesBy s answers components kinds types work = Solves s (lent_by answers components kinds types work) (left_by answers components kinds types work)
