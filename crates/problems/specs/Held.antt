-- WHAT A PROBLEM IS THAT ROWS HAVE MADE: components of the problem, kinds, legal types, ascending sets within their limits. It is so
-- after the count, stays so with every row, taken or refused, and gives what a solve asks.
use Rattle.std.specs.Prelude.{ℕ, ◌+◌, ◌^◌, ◌≤◌, ◌<◌}
use mathlib.Core.List.Memᴰ
use mathlib.Core.List.{List, [], ◌∷◌, Memᴰ}
use Rattle.std.proofs.Math.ListN.{length}
use Rattle.solving.specs.Ordered.{Ascending}
use Rattle.solving.specs.Tidy.{LegalBound}
use Rattle.solving.specs.Solving.{Bound, compare_bounds, Pair, compare_pairs, Problem}
use Rattle.problems.specs.Problems.{ProblemRow, counted, variable, bounded, flow, upper_flow, reading, writing}

-- both are components
abbrev pub In : ℕ → Pair → Type 0
In n r = (r.0 < n) × (r.1 < n)

-- pairs of components, ascending
pub record Links (n : ℕ) (l : List Pair) : Type 0 where
  pub ascend : Ascending compare_pairs l
  pub within : (r : Pair) → Memᴰ r l → In n r

pub record Held (names : ℕ) (p : Problem) : Type 0 where
  pub few : p.components ≤ 512
  pub variables-few : length p.variables ≤ 2048
  pub variables-in : (c : ℕ) → Memᴰ c p.variables → c < p.components
  pub bounds-few : length p.bounds ≤ 4096
  pub bounds-ascend : Ascending compare_bounds p.bounds
  pub bounds-legal : (b : Bound) → Memᴰ b p.bounds → LegalBound names p.components b
  pub flows-few : length p.flows ≤ 2048
  pub flows : Links p.components p.flows
  pub upper-few : length p.upper_flows ≤ 1024
  pub upper_flows : Links p.components p.upper_flows
  -- together
  pub arrays-few : length p.reads + length p.writes ≤ 1024
  pub reads : Links p.components p.reads
  pub writes : Links p.components p.writes

-- a row after the count; a word has 64 bits
abbrev pub Later : ProblemRow → Type 0
Later (counted n) = ⊥
Later (variable c) = Unit {0}
Later (bounded c k w) = w < 2 ^ 64
Later (flow a b) = Unit {0}
Later (upper_flow a b) = Unit {0}
Later (reading a b) = Unit {0}
Later (writing a b) = Unit {0}

abbrev pub AllLater : List ProblemRow → Type 0
AllLater [] = Unit {0}
AllLater (r ∷ rs) = Later r × AllLater rs

-- ---- the rows of columns

-- words of 64 bits, as a column of u64 has them
abbrev pub Words : List ℕ → Type 0
Words [] = Unit {0}
Words (w ∷ ws) = (w < 2 ^ 64) × Words ws
