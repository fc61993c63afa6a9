-- THE STACK OF PLAIN ROWS: their columns, one after the other, come to the fold of the rows.
use Rattle.std.specs.Prelude.{◌≡◌}
use Rattle.std.proofs.Math.Path.{ap}
use Rattle.std.proofs.Common.{◌∙◌}
use mathlib.Core.List.{List}
use Rattle.columns.specs.Fold.{Row}
use Rattle.columns.specs.Given.{no_marks}
use Rattle.layercolumns.specs.Fold.{told, stack_run, stack_start, stack-fold}
use Rattle.tableview.specs.TableRows.{Rows}
use Rattle.tableview.specs.Canonical.{columns_of, table_rows}
use Rattle.tableview.proofs.Canonical.{rows-held, rows-back}
use Rattle.stackview.specs.LayerRows.{shown_table, shown_in}
use Rattle.stackview.specs.Agrees.{stack_in}

module _ (t : Rows) where
  pub stack-rows : stack_in (columns_of t) ≡ told (stack_run (table_rows t) (stack_start no_marks))
  unfolding stack_in
  stack-rows =
      stack-fold (columns_of t).names (columns_of t).name_at (columns_of t).name_len (columns_of t).parents (columns_of t).rec_flags (columns_of t).rec_class (columns_of t).rec_at (columns_of t).rec_len no_marks
      ∙ ap (λ (rows : List Row). told (stack_run rows (stack_start no_marks))) (rows-held t)

  -- and they show what the rows show
  pub shown-back : shown_in (columns_of t) ≡ shown_table t
  unfolding shown_in
  shown-back = ap shown_table (rows-back t)
