-- A PROBLEM THAT SORTED SLICES KEEP: what the row functions leave, the solve reads, and every contract between them speaks of.
use Rattle.std.specs.Prelude.{◌≡◌, ℕ}
use mathlib.Core.List.{List, map}
use Rattle.solving.specs.Solving.{Problem}
use Rattle.solving.specs.TableKeys.{keys_of, bound_of}
use Rattle.solving.specs.LinkKeys.{pair_of}
use Rattle.problems.specs.Held.{Held}

-- THE PROBLEM THAT SORTED SLICES HOLD: bounds as keys, pairs as first * 512 + second
abbrev pub problem_of : ℕ → List ℕ → List ℕ → List ℕ → List ℕ → List ℕ → List ℕ → Problem
problem_of components variables bounds flows uppers reads writes = record {
  components = components;
  variables = variables;
  bounds = map bound_of bounds;
  flows = map pair_of flows;
  upper_flows = map pair_of uppers;
  reads = map pair_of reads;
  writes = map pair_of writes;
}

-- what the slices of a problem that was taken have
pub record Keeps (names components : ℕ) (variables bounds flows uppers reads writes : List ℕ) : Type 0 where
  pub held : Held names (problem_of components variables bounds flows uppers reads writes)
  pub keyed : keys_of (map bound_of bounds) ≡ bounds
