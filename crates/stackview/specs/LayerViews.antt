-- THE SAME IN OTHER WORDS, those of hierarchy.rs: a lookup goes through the layers from the topmost down. Parents come from the first layer that
-- records the class, facts, apart from that, from the first that declares it. The rows that the layers show say just this.
use Rattle.std.specs.Prelude.{◌≡◌, Bool, false, cond, ◌||◌, List, [], ◌∷◌, ℕ}
use Rattle.view.specs.View.{View}
use Rattle.tableview.specs.TableRows.{Record, is_recorded, listed_parents, set_of, last_declared, fact_from, any_flags, interface_flag, final_flag}
use Rattle.stackview.specs.LayerRows.{opens_layer}

-- ---- what one layer says, and a layer over a table

pub record Layer : Type 0 where
  pub recorded : ℕ → Bool
  pub parents : ℕ → List ℕ
  pub declared : ℕ → Bool
  pub interface : ℕ → Bool
  pub final : ℕ → Bool

unfoldable pub layer_of : List Record → Layer
layer_of rs = record {
  recorded = λ c. is_recorded c rs;
  parents = λ c. set_of (listed_parents c rs);
  declared = λ c. fact_from any_flags (last_declared c rs) false;
  interface = λ c. fact_from interface_flag (last_declared c rs) false;
  final = λ c. fact_from final_flag (last_declared c rs) false;
}

-- a record hides the one below, and the facts are looked up apart from it
abbrev pub onto : Layer → View → View
onto l v = record {
  names = v.names;
  object = v.object;
  recorded = λ c. l.recorded c || v.recorded c;
  parents = λ c. cond (l.recorded c) (l.parents c) (v.parents c);
  declared = λ c. l.declared c || v.declared c;
  interface = λ c. cond (l.declared c) (l.interface c) (v.interface c);
  final = λ c. cond (l.declared c) (l.final c) (v.final c);
}

-- the layers of some rows: the lowest, and those above it
unfoldable pub lowest_layer : List Record → List Record
lowest_layer [] = []
lowest_layer (r ∷ rs) = cond (opens_layer r) [] (r ∷ lowest_layer rs)

unfoldable pub layers_above : List Record → List (List Record)
layers_above [] = []
layers_above (r ∷ rs) = cond (opens_layer r) (lowest_layer rs ∷ layers_above rs) (layers_above rs)

-- one layer over the other
unfoldable pub through : View → List (List Record) → View
through v [] = v
through v (rs ∷ layers) = through (onto (layer_of rs) v) layers

-- A TABLE WITHOUT A ROW THAT OPENS A LAYER SHOWS ITS OWN ROWS
abbrev pub none_opens : List Record → Type 0
none_opens [] = Unit {0}
none_opens (r ∷ rs) = (opens_layer r ≡ false) × none_opens rs
