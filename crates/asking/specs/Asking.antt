-- What the contracts cite: which links a component has.
use Rattle.std.specs.Prelude.{Bool, false, ◌||◌, List, [], ◌∷◌, map, ℕ, eqb}
use Rattle.solving.specs.LinkKeys.{pair_of}
use Rattle.solving.specs.Solving.{Pair}
use Rattle.asking.specs.declared.Asked.{Asked}

-- some pair begins with the root
unfoldable pub begins : ℕ → List Pair → Bool
begins root [] = false
begins root (p ∷ ps) = eqb p.0 root || begins root ps

-- some pair begins or ends with it
unfoldable pub touches : ℕ → List Pair → Bool
touches root [] = false
touches root (p ∷ ps) = (eqb p.0 root || eqb p.1 root) || touches root ps

-- a flow, or an array constraint on either side, takes on what is produced
abbrev pub asks_produced : List ℕ → List ℕ → List ℕ → ℕ → Bool
asks_produced flows reads writes root = begins root (map pair_of flows) || (touches root (map pair_of reads) || touches root (map pair_of writes))

-- the component is an array that is read or written
abbrev pub asks_element : List ℕ → List ℕ → ℕ → Bool
asks_element reads writes root = begins root (map pair_of reads) || begins root (map pair_of writes)

abbrev pub asked_of : List ℕ → List ℕ → List ℕ → ℕ → Asked
asked_of flows reads writes root = record { produced = asks_produced flows reads writes root; element = asks_element reads writes root }
