-- ONE LAYER IS AS BEFORE: where no row opens a layer, the columns come to the plain table, show their own rows and are refused as a plain table is.
use Rattle.std.specs.Prelude.{◌≡◌, refl, Bool, true, false, cond, ℕ, suc, eqb, length}
use Rattle.std.proofs.Math.Path.{sym, ap}
use Rattle.std.proofs.Common.{◌∙◌, arith}
use mathlib.Core.List.{List, [], ◌∷◌}
use Rattle.rows.specs.Rows.{no_tables}
use Rattle.columns.specs.Columns.{name_rows}
use Rattle.columns.specs.Given.{Given, even, no_marks, table}
use Rattle.columns.specs.GivenLaws.{even-is}
use Rattle.layers.specs.Stacks.{StackRan}
use Rattle.layercolumns.specs.LayerColumns.{open_flags, first_open, grounded}
use Rattle.layercolumns.specs.Laws.{table-lowest}
use Rattle.tableview.specs.TableRows.{Record, records_of, names_of, rows_in}
use Rattle.tableview.specs.RowRefusals.{table_refusal}
use Rattle.tableview.proofs.Refused.{table-refusal}
use Rattle.stackview.specs.LayerRows.{shown_in}
use Rattle.stackview.specs.LayerViews.{none_opens}
use Rattle.stackview.proofs.LayerViews.{one-layer}
use Rattle.stackview.specs.LayerRefusals.{stack_refusal_of}
use Rattle.stackview.proofs.Refused.{stack-refusal}
use Rattle.stackview.specs.Agrees.{stack_in}

-- all rows stand before the first that opens a layer
pub rest-opens : (f : ℕ) (fs : List ℕ) → first_open (f ∷ fs) ≡ length (f ∷ fs) → (eqb f open_flags ≡ false) × (first_open fs ≡ length fs)
unfolding first_open
rest-opens f fs e = go (eqb f open_flags) e
  where
    go : (b : Bool) → cond b 0 (suc (first_open fs)) ≡ suc (length fs) → (b ≡ false) × (first_open fs ≡ length fs)
    go true k = absurd (omega arith)
    go false k = (refl, omega arith)

none-opens : (parents fs cs ats ls : List ℕ) → first_open fs ≡ length fs → none_opens (records_of parents fs cs ats ls)
unfolding records_of
none-opens parents [] cs ats ls e = tt
none-opens parents (f ∷ fs) [] ats ls e = tt
none-opens parents (f ∷ fs) (c ∷ cs) [] ls e = tt
none-opens parents (f ∷ fs) (c ∷ cs) (a ∷ ats) [] e = tt
none-opens parents (f ∷ fs) (c ∷ cs) (a ∷ ats) (l ∷ ls) e = let k = rest-opens f fs e in (k.0, none-opens parents fs cs ats ls k.1)

module _ (g : Given) (e : even g ≡ true) (none : first_open g.rec_flags ≡ length g.rec_flags) where
  pub plain-table : stack_in g ≡ grounded (table g)
  unfolding stack_in table even
  plain-table =
      let k = even-is (length g.name_at) (length g.name_len) (length g.rec_flags) (length g.rec_class) (length g.rec_at) (length g.rec_len) e in
      table-lowest (name_rows g.names g.name_at g.name_len [] no_tables) g.parents g.rec_flags g.rec_class g.rec_at g.rec_len no_marks k.1 k.2 k.3 none

  pub plain-refusal : stack_refusal_of g ≡ table_refusal g
  unfolding stack_in
  plain-refusal = sym (stack-refusal g) ∙ ap (λ (x : StackRan). x.refusal) plain-table ∙ table-refusal g

pub plain-rows : (g : Given) → first_open g.rec_flags ≡ length g.rec_flags → shown_in g ≡ rows_in g
unfolding shown_in rows_in
plain-rows g none =
    ap (λ (rs : List Record). record { names = names_of g.names g.name_at g.name_len; records = rs })
    (one-layer (records_of g.parents g.rec_flags g.rec_class g.rec_at g.rec_len) (none-opens g.parents g.rec_flags g.rec_class g.rec_at g.rec_len none))
