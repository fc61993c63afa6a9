-- WHAT A SOLVE THAT IS NOT REFUSED GIVES, in the words of the scope paper: its table has the given bounds, is strictly ascending, within
-- 4,096 and closed; turns are at most components plus bounds added; answers are resolve_state's, are concrete, and have the property of
-- chains; and it depends on the sets of rows alone.
use Rattle.std.specs.Prelude.{◌≡◌, ℕ, ◌≤◌, ◌<◌, length}
use mathlib.Core.List.Memᴰ
use mathlib.Core.List.{List, Memᴰ}
use Rattle.solving.specs.OrderedLaws.{SameMembers}
use Rattle.solving.specs.Tidy.{LegalBound}
use Rattle.solving.specs.Solving.{Bound, Pair, room, Problem, table_of}

-- ---- rows that were checked

-- what the refusals 6, 7 and 8 leave: components of the problem, kinds, legal types, at most 4,096 bounds
pub record Checked (names : ℕ) (p : Problem) : Type 0 where
  pub bounds : (b : Bound) → Memᴰ b p.bounds → LegalBound names p.components b
  pub few : length (table_of p) ≤ room
  pub flows : (r : Pair) → Memᴰ r p.flows → (r.0 < p.components) × (r.1 < p.components)
  pub upper_flows : (r : Pair) → Memᴰ r p.upper_flows → (r.0 < p.components) × (r.1 < p.components)
  pub reads : (r : Pair) → Memᴰ r p.reads → (r.0 < p.components) × (r.1 < p.components)
  pub writes : (r : Pair) → Memᴰ r p.writes → (r.0 < p.components) × (r.1 < p.components)

-- two problems with the same rows, in any order and with any repeats
pub record SameRows (p r : Problem) : Type 0 where
  pub components : p.components ≡ r.components
  pub variables : p.variables ≡ r.variables
  pub bounds : SameMembers p.bounds r.bounds
  pub flows : SameMembers p.flows r.flows
  pub upper_flows : SameMembers p.upper_flows r.upper_flows
  pub reads : SameMembers p.reads r.reads
  pub writes : SameMembers p.writes r.writes
