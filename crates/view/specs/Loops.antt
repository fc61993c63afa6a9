-- The loops of hierarchy.rs as they stand there, step by step: `compute_distances` with its map and its queue, and
-- `subtype_relation` with its set of visited classes and its queue. Walk and Search prove that they give what View defines.
-- The map is a list of entries, the last first; a key is entered once.
use Rattle.std.specs.Prelude.{Bool, true, false, cond, ◌||◌, List, [], ◌∷◌, ◌++◌, ℕ, zero, suc, eqb}
use Rattle.std.proofs.Math.Option.{Option, some, none}
use Rattle.view.specs.declared.Relation.{Relation}
use Rattle.view.specs.declared.Relation.TheVariants.{Yes, No, Unknown}
use Rattle.view.specs.View.{View, far}

-- ---- compute_distances

-- a class with its distance, in the map and in the queue
pub record Entry : Type 0 where
  pub name : ℕ
  pub distance : ℕ

abbrev pub entry : ℕ → ℕ → Entry
entry c n = record { name = c; distance = n }

-- `distances` and `pending`
pub record State : Type 0 where
  pub distances : List Entry
  pub pending : List Entry

unfoldable pub lookup : List Entry → ℕ → Option ℕ
lookup [] c = none
lookup (e ∷ es) c = cond (eqb e.name c) (some e.distance) (lookup es c)

-- a parent that is in the map already is passed over, another is inserted and pushed back
abbrev pub enter : ℕ → ℕ → Option ℕ → State → State
enter p n (some k) w = w
enter p n none w = record { distances = entry p n ∷ w.distances; pending = w.pending ++ (entry p n ∷ []) }

-- the `for` over the parents of a class
unfoldable pub visit : ℕ → List ℕ → State → State
visit n [] w = w
visit n (p ∷ ps) w = visit n ps (enter p n (lookup w.distances p) w)

-- one turn of the `while`
abbrev pub turn : View → List Entry → State → State
turn v [] w = w
turn v (e ∷ es) w = visit (suc e.distance) (v.parents e.name) (record { distances = w.distances; pending = es })

unfoldable pub turns : View → ℕ → State → State
turns v zero w = w
turns v (suc n) w = turns v n (turn v w.pending w)

-- the whole loop: as many turns as there are names are enough (`Walk-Ends`)
unfoldable pub walk : View → ℕ → State
walk v x = turns v v.names (record { distances = entry x 0 ∷ []; pending = entry x 0 ∷ [] })

-- `entry(..).or_insert(..)` of Object
abbrev pub or_insert : View → Option ℕ → List Entry → List Entry
or_insert v (some k) es = es
or_insert v none es = entry v.object far ∷ es

unfoldable pub compute_distances : View → ℕ → List Entry
compute_distances v x = or_insert v (lookup (walk v x).distances v.object) (walk v x).distances

-- ---- recorded_ancestor

abbrev pub present : Option ℕ → Bool
present none = false
present (some n) = true

unfoldable pub recorded_ancestor : View → ℕ → ℕ → Bool
recorded_ancestor v value expected = (eqb value expected || eqb expected v.object) || present (lookup (compute_distances v value) expected)

-- ---- subtype_relation

-- `contains`, of the visited classes and of the parents
unfoldable pub contains : List ℕ → ℕ → Bool
contains [] y = false
contains (c ∷ cs) y = eqb c y || contains cs y

-- at most n turns of the `while`, with the visited, the pending, and whether a class without a record was met; none where it goes on
unfoldable pub search : View → ℕ → ℕ → List ℕ → List ℕ → Bool → Option Relation
search v y zero seen [] incomplete = some (cond incomplete Unknown No)
search v y zero seen (c ∷ pending) incomplete = none
search v y (suc n) seen [] incomplete = some (cond incomplete Unknown No)
search v y (suc n) seen (c ∷ pending) incomplete =
    cond (contains seen c) (search v y n seen pending incomplete)
    (cond (v.recorded c)
    (cond (contains (v.parents c) y) (some Yes) (search v y n (c ∷ seen) (pending ++ v.parents c) incomplete))
    (search v y n (c ∷ seen) pending true))

-- the whole of `subtype_relation`
unfoldable pub subtype_relation : View → ℕ → ℕ → ℕ → Option Relation
subtype_relation v value expected n = cond (recorded_ancestor v value expected) (some Yes) (search v expected n [] (value ∷ []) false)
