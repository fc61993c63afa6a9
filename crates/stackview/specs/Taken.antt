-- What rows that are taken leave, in the words of the rows that their layers show: the pairs are those that shown rows list, the marks those that
-- rows tell.
use Rattle.std.specs.Prelude.{◌≡◌, Bool, not, ◌&&◌, ◌||◌, ℕ, ◌<◌}
use Rattle.std.proofs.Math.Bool.{true, cond}
use mathlib.Core.List.{List}
use Rattle.std.proofs.Math.Dec.{eqb}
use Rattle.order.specs.Lists.{elem}
use Rattle.sets.specs.Sets.{member}
use Rattle.rows.specs.Rows.{key, is_marked}
use Rattle.layers.specs.Layers.{keys_without}
use Rattle.layers.specs.Stacks.{Stack}
use Rattle.tableview.specs.TableRows.{Record, is_recorded, listed_parents, last_declared, fact_from, any_flags, interface_flag, final_flag}
use Rattle.tableview.specs.Taken.{SameNumbers}
use Rattle.stackview.specs.LayerRows.{has_record, recorded_above, shown_rows}

-- ---- a record that is taken

-- what lies below stays: on the lowest layer, and of a class that the layer records
unfoldable pub stays : Stack → ℕ → Bool
stays s c = eqb s.under 0 || member s.top.own c

-- the keys beside it
abbrev pub keys_beside : Stack → ℕ → List ℕ
keys_beside s c = cond (stays s c) s.top.shown.keys (keys_without c s.top.shown.keys)

-- ---- what is listed and what is covered

-- what is there of a class goes where it is recorded again: by a layer above, or, where it does not stay, by any record
abbrev pub covered : Stack → ℕ → List Record → Bool
covered s c rs = cond (stays s c) (recorded_above c rs) (has_record c rs)

-- what rows make of a stack s, of whose classes some are covered: `rows` are those that are shown
pub record Leaves (s : Stack) (rows : List Record) (gone : ℕ → Bool) (u : Stack) : Type 0 where
  pub numbers : SameNumbers u.top.shown.tables s.top.shown.tables
  pub pairs : (c p : ℕ) → p < 1024 → elem (key c p) u.top.shown.keys ≡ (elem p (listed_parents c rows) || (elem (key c p) s.top.shown.keys && not (gone c)))
  pub recorded : (c : ℕ) → c < 1024 → is_marked 0 c u.top.shown.marks ≡ (is_recorded c rows || is_marked 0 c s.top.shown.marks)
  pub declared : (c : ℕ) → c < 1024 → is_marked 1 c u.top.shown.marks ≡ fact_from any_flags (last_declared c rows) (is_marked 1 c s.top.shown.marks)
  pub interface : (c : ℕ) → c < 1024 → is_marked 2 c u.top.shown.marks ≡ fact_from interface_flag (last_declared c rows) (is_marked 2 c s.top.shown.marks)
  pub final : (c : ℕ) → c < 1024 → is_marked 3 c u.top.shown.marks ≡ fact_from final_flag (last_declared c rows) (is_marked 3 c s.top.shown.marks)
  -- every row is of classes of the table
  pub class-in : (c : ℕ) → is_recorded c rows ≡ true → c < s.top.shown.tables.names
  pub parent-in : (c p : ℕ) → elem p (listed_parents c rows) ≡ true → (c < s.top.shown.tables.names) × (p < s.top.shown.tables.names)

abbrev pub StackAfter : Stack → List Record → Stack → Type 0
StackAfter s rs u = Leaves s (shown_rows rs) (λ c. covered s c rs) u
