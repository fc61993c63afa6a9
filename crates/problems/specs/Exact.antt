-- A PROBLEM IS TAKEN EXACTLY IF its rows are in range, its words legal and its entries, counted without repeats, within the limits: so a
-- version that refuses more is ruled out, and order and repeats have no effect on whether it is refused.
use Rattle.std.specs.Prelude.{◌≡◌, ℕ, ◌+◌, ◌≤◌, ◌<◌}
use Rattle.std.proofs.Math.Bool.{true}
use mathlib.Core.List.{List, [], ◌∷◌, ◌++◌}
use Rattle.std.proofs.Math.ListN.{length}
use Rattle.ty.specs.Words.{legal_word}
use Rattle.solving.specs.Solving.{Problem}
use Rattle.problems.specs.Problems.{ProblemRow, counted, variable, bounded, flow, upper_flow, reading, writing, no_problem, with_count, Columns, variable_rows, bound_rows, pair_rows}
use Rattle.problems.specs.Plain.{with_rows}

-- ---- in range, over that many names and components; no second count

abbrev pub InRange : ℕ → ℕ → ProblemRow → Type 0
InRange names n (counted m) = ⊥
InRange names n (variable c) = c < n
InRange names n (bounded c k w) = (c < n) × (k ≤ 4) × (legal_word names w ≡ true)
InRange names n (flow a b) = (a < n) × (b < n)
InRange names n (upper_flow a b) = (a < n) × (b < n)
InRange names n (reading a b) = (a < n) × (b < n)
InRange names n (writing a b) = (a < n) × (b < n)

abbrev pub AllInRange : ℕ → ℕ → List ProblemRow → Type 0
AllInRange names n [] = Unit {0}
AllInRange names n (r ∷ rs) = InRange names n r × AllInRange names n rs

-- within the limits
pub record Roomy (p : Problem) : Type 0 where
  pub variables : length p.variables ≤ 2048
  pub bounds : length p.bounds ≤ 4096
  pub flows : length p.flows ≤ 2048
  pub upper_flows : length p.upper_flows ≤ 1024
  pub arrays : length p.reads + length p.writes ≤ 1024

abbrev pub NotCount : ProblemRow → Type 0
NotCount (counted m) = ⊥
NotCount (variable c) = Unit {0}
NotCount (bounded c k w) = Unit {0}
NotCount (flow a b) = Unit {0}
NotCount (upper_flow a b) = Unit {0}
NotCount (reading a b) = Unit {0}
NotCount (writing a b) = Unit {0}

abbrev pub NoCount : List ProblemRow → Type 0
NoCount [] = Unit {0}
NoCount (r ∷ rs) = NotCount r × NoCount rs

-- ---- the rows of columns after the count

unfoldable pub later_rows : Columns → List ProblemRow
later_rows c =
    variable_rows c.variables
    ++ (bound_rows c.bound_components c.bound_kinds c.bound_words
    ++ (pair_rows flow c.flow_sources c.flow_targets
    ++ (pair_rows upper_flow c.upper_sources c.upper_targets
    ++ (pair_rows reading c.read_arrays c.read_results ++ pair_rows writing c.write_arrays c.write_values))))

-- the count, the ranges, and the room that the rows take together
pub record Allowed (names : ℕ) (c : Columns) : Type 0 where
  pub few : c.components ≤ 512
  pub ranges : AllInRange names c.components (later_rows c)
  pub room : Roomy (with_rows (later_rows c) (with_count c.components no_problem))
