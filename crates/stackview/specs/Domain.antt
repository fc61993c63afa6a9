-- The domain of a table of layers in the words of its rows, and that columns are taken exactly if each row lies inside its slice and the rows are
-- in it.
use Rattle.std.specs.Prelude.{◌≡◌, get_or}
use Rattle.std.proofs.Math.Bool.{true, false}
use mathlib.Core.List.Memᴰ
use mathlib.Core.List.{List, [], Memᴰ}
use Prim.Native.Nat.{ℕ, ◌+◌, ◌≤◌, ◌<◌}
use Rattle.std.proofs.Math.ListN.{length}
use Rattle.tableview.specs.TableRows.{Record, records_of}
use Rattle.tableview.specs.Domain.{keys_from}
use Rattle.tableview.specs.Domain.{GoodRow}
use Rattle.stackview.specs.LayerRows.{opens_layer}
use Rattle.stackview.specs.LayerViews.{lowest_layer, layers_above}
use Prim.Native.Nat.{suc}
use mathlib.Core.List.{◌∷◌}
use Rattle.std.specs.declared.cmp.Ordering.TheVariants.{Less}
use Rattle.order.specs.Compare.{compare_lists}
use Rattle.rows.specs.Rows.{object_name}
use Rattle.columns.specs.Given.{Given}
use Rattle.tableview.specs.TableRows.{Rows, names_of}
use Rattle.tableview.specs.RowRefusals.{different}
use Rattle.tableview.specs.Canonical.{joined}
use Rattle.tableview.specs.Domain.{GoodName, pairs_of}

-- ---- the columns of the records

-- each place inside, each row good, and room for each layer's pairs, for the topmost with the keys that it has
pub record StackFit (n under : ℕ) (keys parents fs cs ats ls : List ℕ) : Type 0 where
  pub placed : (i : ℕ) → i < length fs → get_or ats i 0 + get_or ls i 0 ≤ length parents
  pub good : (r : Record) → Memᴰ r (records_of parents fs cs ats ls) → opens_layer r ≡ false → GoodRow n r
  pub bare : (r : Record) → Memᴰ r (records_of parents fs cs ats ls) → opens_layer r ≡ true → (r.class ≡ 0) × (r.parents ≡ [])
  pub low : under + length (layers_above (records_of parents fs cs ats ls)) ≤ 3
  pub room : length (keys_from (lowest_layer (records_of parents fs cs ats ls)) keys) ≤ 4096
  pub rooms : (layer : List Record) → Memᴰ layer (layers_above (records_of parents fs cs ats ls)) → length (keys_from layer []) ≤ 4096

-- ---- THE LIMITS: as of a plain table; a row that opens a layer is of class 0 and lists nothing; at most three layers above the lowest; at most 4,096 different
-- pairs a layer

pub record LayersInLimits (t : Rows) : Type 0 where
  pub few-names : length t.names ≤ 1024
  pub few-bytes : length (joined t.names) ≤ 24576
  pub names-good : (i : ℕ) → i < length t.names → GoodName (get_or t.names i [])
  pub rising : (i : ℕ) → suc i < length t.names → compare_lists (get_or t.names i []) (get_or t.names (suc i) []) ≡ Less
  pub rows-good : (r : Record) → Memᴰ r t.records → opens_layer r ≡ false → GoodRow (length t.names) r
  pub opens-bare : (r : Record) → Memᴰ r t.records → opens_layer r ≡ true → (r.class ≡ 0) × (r.parents ≡ [])
  pub few-layers : length (layers_above t.records) ≤ 3
  pub few-pairs : (layer : List Record) → Memᴰ layer (lowest_layer t.records ∷ layers_above t.records) → different (pairs_of layer) ≤ 4096

-- THE DOMAIN: and java/lang/Object among the names
pub record LayersInDomain (t : Rows) : Type 0 where
  pub limits : LayersInLimits t
  pub object-named : Memᴰ object_name t.names

-- the rows that columns hold, those that open a layer among them
abbrev pub given_rows : Given → Rows
given_rows g = record { names = names_of g.names g.name_at g.name_len; records = records_of g.parents g.rec_flags g.rec_class g.rec_at g.rec_len }
