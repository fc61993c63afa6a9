-- What records that are taken leave, in the words of the rows: the pairs are those that rows list, the marks those that rows tell.
use Rattle.std.specs.Prelude.{◌≡◌, ◌||◌, List, ℕ, ◌<◌}
use Rattle.std.proofs.Math.Bool.{true}
use Rattle.order.specs.Lists.{elem}
use Rattle.tables.specs.declared.Tables.{Tables}
use Rattle.rows.specs.Rows.{State, key, is_marked}
use Rattle.tableview.specs.TableRows.{Record, is_recorded, listed_parents, last_declared, fact_from, any_flags, interface_flag, final_flag}

-- the numbers of a table are those of another, but for its pairs
pub record SameNumbers (t u : Tables) : Type 0 where
  pub names : t.names ≡ u.names
  pub bytes : t.bytes ≡ u.bytes
  pub object : t.object ≡ u.object
  pub cloneable : t.cloneable ≡ u.cloneable
  pub serializable : t.serializable ≡ u.serializable

-- what rows rs make of a state s
pub record After (s : State) (rs : List Record) (u : State) : Type 0 where
  pub numbers : SameNumbers u.tables s.tables
  pub pairs : (c p : ℕ) → p < 1024 → elem (key c p) u.keys ≡ (elem p (listed_parents c rs) || elem (key c p) s.keys)
  pub recorded : (c : ℕ) → c < 1024 → is_marked 0 c u.marks ≡ (is_recorded c rs || is_marked 0 c s.marks)
  pub declared : (c : ℕ) → c < 1024 → is_marked 1 c u.marks ≡ fact_from any_flags (last_declared c rs) (is_marked 1 c s.marks)
  pub interface : (c : ℕ) → c < 1024 → is_marked 2 c u.marks ≡ fact_from interface_flag (last_declared c rs) (is_marked 2 c s.marks)
  pub final : (c : ℕ) → c < 1024 → is_marked 3 c u.marks ≡ fact_from final_flag (last_declared c rs) (is_marked 3 c s.marks)
  -- every row is of classes of the table
  pub class-in : (c : ℕ) → is_recorded c rs ≡ true → c < s.tables.names
  pub parent-in : (c p : ℕ) → elem p (listed_parents c rs) ≡ true → (c < s.tables.names) × (p < s.tables.names)
