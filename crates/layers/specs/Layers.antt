-- A table of several layers over one list of names: what the layers together show, and which classes the topmost one records. Records go to the
-- topmost layer alone; the first record of a class there takes the place of those below.
use Rattle.std.specs.Prelude.{◌≡◌, cond, List, [], ◌∷◌, ℕ, ◌+◌, ◌*◌, ◌/◌, ◌≤◌, eqb, length, take, replicate}
use Rattle.sets.specs.Sets.{member, insert}
use Rattle.sorted.specs.Sorted.{Sorted}
use Rattle.tables.specs.declared.Tables.{Tables}
use Rattle.tables.specs.Table.{names_room, pairs_room, marks_room}
use Rattle.rows.specs.Rows.{State, record_refusal, with_record, state_of, filled}
use Rattle.layers.specs.declared.Layer.{Layer}
use Rattle.layers.specs.declared.LayerOutcome.{LayerOutcome}

-- the room for the keys that four layers show together
abbrev pub layers_room : ℕ
layers_room = 16384

-- `own`: the classes that the topmost layer records, in sixteen words
pub record Layered : Type 0 where
  pub shown : State
  pub own : List ℕ

-- the keys of the classes of a set
unfoldable pub keys_inside : List ℕ → List ℕ → List ℕ
keys_inside own [] = []
keys_inside own (e ∷ es) = cond (member own (e / names_room)) (e ∷ keys_inside own es) (keys_inside own es)

-- the keys of all classes but one
unfoldable pub keys_without : ℕ → List ℕ → List ℕ
keys_without c [] = []
keys_without c (e ∷ es) = cond (eqb (e / names_room) c) (keys_without c es) (e ∷ keys_without c es)

-- the keys that are left beside a record of a class: all, where the topmost layer records it already, else none of the class
unfoldable pub keys_left : List ℕ → ℕ → List ℕ → List ℕ
keys_left own c keys = cond (member own c) keys (keys_without c keys)

-- the keys of the topmost layer
abbrev pub layer_keys : Layered → List ℕ
layer_keys l = keys_inside l.own l.shown.keys

-- a record is refused as over the topmost layer alone
unfoldable pub layer_refusal : Layered → ℕ → ℕ → List ℕ → ℕ
layer_refusal l flags class parents = record_refusal l.shown.tables.names (layer_keys l) flags class parents

-- the state without what lies below a record of a class
abbrev pub uncovered : Layered → ℕ → State
uncovered l c = record { tables = l.shown.tables; keys = keys_left l.own c l.shown.keys; marks = l.shown.marks }

unfoldable pub with_layer_record : Layered → ℕ → ℕ → List ℕ → Layered
with_layer_record l flags class parents = record { shown = with_record (uncovered l class) flags class parents; own = insert l.own class }

-- after a record: a refused one changes nothing
unfoldable pub layer_row : Layered → ℕ → ℕ → List ℕ → Layered
layer_row l flags class parents = cond (eqb (layer_refusal l flags class parents) 0) (with_layer_record l flags class parents) l

-- a layer is opened over a table: it records no class
abbrev pub opened : State → Layered
opened s = record { shown = s; own = replicate 16 0 }

-- ---- in slices

-- a refusal, and the table after it
pub record LayerRan : Type 0 where
  pub refusal : ℕ
  pub state : Layered

abbrev pub layer_ran : Layered → ℕ → ℕ → List ℕ → LayerRan
layer_ran l flags class parents = record { refusal = layer_refusal l flags class parents; state = layer_row l flags class parents }

-- what two slices and the numbers of a layer hold
abbrev pub layered_of : List ℕ → List ℕ → Tables → Layer → Layered
layered_of pairs marks t layer = record { shown = state_of pairs marks t; own = layer.own.words }

-- slices with room for four layers: the keys ascend, the layer's are counted, and at most three layers lie below
pub record Roomy (pairs marks : List ℕ) (t : Tables) (layer : Layer) : Type 0 where
  pub few : t.names ≤ names_room
  pub long : length pairs ≡ layers_room
  pub wide : length marks ≡ marks_room
  pub within : t.pairs ≤ layers_room
  pub ordered : Sorted (take t.pairs pairs)
  pub own-wide : length layer.own.words ≡ 16
  pub counted : layer.keys ≡ length (keys_inside layer.own.words (take t.pairs pairs))
  pub layer-room : layer.keys ≤ pairs_room
  pub room : t.pairs ≤ pairs_room * 3 + layer.keys

-- the numbers of a table of layers
abbrev pub numbered : ℕ → Layered → LayerOutcome
numbered refusal l = record { refusal = refusal; tables = l.shown.tables; layer = record { own = record { words = l.own }; keys = length (layer_keys l) } }

-- what a result and two slices hold after a record: the keys in front of the pairs as they came
pub record FillsLayer (after : LayerRan) (pairs pairs' marks' : List ℕ) (r : LayerOutcome) : Type 0 where
  pub outcome-is : r ≡ numbered after.refusal after.state
  pub pairs-are : pairs' ≡ filled after.state.shown.keys pairs
  pub marks-are : marks' ≡ after.state.shown.marks
