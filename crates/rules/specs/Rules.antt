-- What a turn inserts, from links as numbers, ranks, and what is sent: as `additions` of the solve's definition, without the rules' numbers.
use Rattle.std.specs.Prelude.{List, ◌++◌, map, ℕ}
use Rattle.keys.specs.Rank.{unrank}
use Rattle.solving.specs.LinkKeys.{pair_of}
use Rattle.solving.specs.Solving.{Fallback, Upper, Lower, Exact, Links, partners, Addition, to_each, array_rules}
use Rattle.inserting.specs.declared.Sent.{Sent}
use Rattle.inserting.specs.Store.{sent_types}

-- the links that the numbers stand for
abbrev pub links_in : List ℕ → List ℕ → List ℕ → List ℕ → Links
links_in flows incoming reads writes = record { flows = map pair_of flows; incoming = map pair_of incoming; reads = map pair_of reads; writes = map pair_of writes }

abbrev pub target_rule : List ℕ → ℕ → Sent → List Addition
target_rule flows root produced = to_each 0 Lower (sent_types produced) (partners root (map pair_of flows))

abbrev pub fallback_rule : List ℕ → ℕ → List ℕ → List Addition
fallback_rule flows root fallbacks = to_each 0 Fallback (map unrank fallbacks) (partners root (map pair_of flows))

abbrev pub source_rule : List ℕ → ℕ → List ℕ → List Addition
source_rule incoming root uppers = to_each 0 Upper (map unrank uppers) (partners root (map pair_of incoming))

abbrev pub read_rules : List ℕ → ℕ → Sent → Sent → List Addition
read_rules reads root element array = array_rules 0 Exact (sent_types element) 0 (sent_types array) root (map pair_of reads)

abbrev pub write_rules : List ℕ → ℕ → Sent → Sent → List Addition
write_rules writes root element array = array_rules 0 Upper (sent_types element) 0 (sent_types array) root (map pair_of writes)

-- 1, 2, 3
unfoldable pub bound_rules : List ℕ → List ℕ → ℕ → Sent → List ℕ → List ℕ → List Addition
bound_rules flows incoming root produced fallbacks uppers =
    target_rule flows root produced ++ (fallback_rule flows root fallbacks ++ source_rule incoming root uppers)

-- 4 to 7
unfoldable pub constraint_rules : List ℕ → List ℕ → ℕ → Sent → Sent → List Addition
constraint_rules reads writes root element array = read_rules reads root element array ++ write_rules writes root element array

unfoldable pub all_rules : List ℕ → List ℕ → List ℕ → List ℕ → ℕ → Sent → List ℕ → List ℕ → Sent → Sent → List Addition
all_rules flows incoming reads writes root produced fallbacks uppers element array =
    bound_rules flows incoming root produced fallbacks uppers ++ constraint_rules reads writes root element array
