-- A PROBLEM IN SORTED SLICES: bounds as the keys of `keys`, pairs as first * 512 + second. A row that is taken is one put of `sorted`, and
-- the room is counted by what the put leaves. What the code of the rows cites.
use Rattle.std.specs.Prelude.{◌≡◌, Bool, true, false, ℕ, ◌+◌, ◌*◌, ◌<◌, take}
use mathlib.Core.List.{List, map, Memᴰ}
use Rattle.sorted.specs.declared.Put.{Put}
use Rattle.sorted.specs.declared.Put.TheVariants.{Old, New, Full}
use Rattle.solving.specs.Solving.{Pair, Problem}
use Rattle.solving.specs.TableKeys.{keys_of}

abbrev pub pair_key : Pair → ℕ
pair_key r = r.0 * 512 + r.1

-- what slices and counts hold of a problem: its entries in front
pub record Stored (p : Problem) (variables bounds flows upper_flows reads writes : List ℕ) (nv nb nf nu nr nw : ℕ) : Type 0 where
  pub variables-are : take nv variables ≡ p.variables
  pub bounds-are : take nb bounds ≡ keys_of p.bounds
  pub flows-are : take nf flows ≡ map pair_key p.flows
  pub upper-are : take nu upper_flows ≡ map pair_key p.upper_flows
  pub reads-are : take nr reads ≡ map pair_key p.reads
  pub writes-are : take nw writes ≡ map pair_key p.writes

abbrev pub Narrow : List Pair → Type 0
Narrow l = (r : Pair) → Memᴰ r l → r.1 < 512

-- ---- A SLICE AS LONG AS THE LIMIT IS FULL EXACTLY WHERE 8 COMES BACK

abbrev pub is_full : Put → Bool
is_full Old = false
is_full New = false
is_full Full = true
