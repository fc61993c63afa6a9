-- Ways from a class to a parent, again to a parent, and so on, in the words of the rows; what is reached has a way, and a distance is
-- the length of a shortest one. Assumes nothing of cycles.
use Rattle.std.specs.Prelude.{◌≡◌, ℕ, suc, ◌≤◌}
use mathlib.Core.List.Memᴰ
use mathlib.Core.List.{List, Memᴰ}
use Rattle.std.proofs.Math.Option.{some}
use Rattle.rows.specs.Rows.{object_name}
use Rattle.tableview.specs.TableRows.{Record, Rows, place_of}

-- ---- a step

-- some row of class x lists y
abbrev pub Lists : Rows → ℕ → ℕ → Type 0
Lists t x y = (r : Record) × Memᴰ r t.records × (r.class ≡ x) × Memᴰ y r.parents

-- ---- a way

-- n steps lead from x to y, each from a class to one that some row of it lists
pub data Way (t : Rows) : ℕ → ℕ → ℕ → Type 0 where
  stay : {x : ℕ} → Way t 0 x x
  step : {n x y z : ℕ} → Way t n x y → Lists t y z → Way t (suc n) x z

-- no number of steps does
abbrev pub NoWay : Rows → ℕ → ℕ → Type 0
NoWay t x y = (n : ℕ) → Way t n x y → ⊥

-- n steps do and no fewer
pub record Shortest (t : Rows) (n x y : ℕ) : Type 0 where
  pub way : Way t n x y
  pub least : (k : ℕ) → Way t k x y → n ≤ k

-- ---- Object

-- y is the place of the name java/lang/Object
abbrev pub IsObject : Rows → ℕ → Type 0
IsObject t y = place_of object_name t.names ≡ some y
