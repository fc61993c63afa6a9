-- THE TABLE OF COLUMNS HAS THE VIEW AND THE WORLD OF THE ROWS THAT ITS LAYERS SHOW, wherever it is taken.
use mathlib.Core.List.{[]}
use Rattle.rows.specs.Rows.{no_tables}
use Rattle.columns.specs.Columns.{name_rows}
use Rattle.columns.specs.Given.{Given, no_marks}
use Rattle.layers.specs.Stacks.{StackRan}
use Rattle.layercolumns.specs.LayerColumns.{stack_table}

-- what the columns come to
unfoldable pub stack_in : Given → StackRan
stack_in g = stack_table (name_rows g.names g.name_at g.name_len [] no_tables) g.parents g.rec_flags g.rec_class g.rec_at g.rec_len no_marks
