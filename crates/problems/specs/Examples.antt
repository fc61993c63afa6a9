-- Rows by computation: what is taken, what is refused and in which order, on both sides of the limits.
use Rattle.std.specs.Prelude.{List, [], ◌∷◌, map, ℕ, zero, suc}
use Rattle.solving.specs.Solving.{Problem}
use Rattle.solving.specs.LinkKeys.{pair_of}
use Rattle.problems.specs.Problems.{Columns}

-- as many numbers, from one on
unfoldable pub count_from : ℕ → ℕ → List ℕ
count_from i zero = []
count_from i (suc n) = i ∷ count_from (suc i) n

-- two components, and no row yet
unfoldable pub two_components : Problem
two_components = record { components = 2; variables = []; bounds = []; flows = []; upper_flows = []; reads = []; writes = [] }

-- as many rows as there may be: (0, 0), (0, 1), .., 24 of the arrays' 1,024 being writes
unfoldable pub full : Problem
full = record { components = 512; variables = count_from 0 2048; bounds = []; flows = map pair_of (count_from 0 2048); upper_flows = map pair_of (count_from 0 1024); reads = map pair_of (count_from 0 1000); writes = map pair_of (count_from 0 24) }

-- columns with one variable, one bound, one flow and one write
unfoldable pub small : ℕ → ℕ → ℕ → ℕ → ℕ → Columns
small n v w f d = record {
  components = n;
  variables = v ∷ [];
  bound_components = 0 ∷ [];
  bound_kinds = 4 ∷ [];
  bound_words = w ∷ [];
  flow_sources = f ∷ [];
  flow_targets = 0 ∷ [];
  upper_sources = [];
  upper_targets = [];
  read_arrays = [];
  read_results = [];
  write_arrays = 0 ∷ [];
  write_values = d ∷ [];
}
