-- WHAT A TABLE OF COLUMNS LEAVES IN SLICES, wherever it is taken: the view and the world of the rows that its layers show. Columns of unequal
-- length are told apart before.
use Rattle.std.specs.Prelude.{cond, ℕ, ◌<◌}
use Rattle.std.proofs.Math.Option.{Option, some, none}
use Rattle.columns.specs.Given.{Given, even, uneven_table}
use Rattle.layers.specs.Stacks.{StackRan}
use Rattle.layercolumns.specs.LayerColumns.{grounded}
use Rattle.stackview.specs.Agrees.{stack_in}

-- the table after the test of the columns: uneven ones are refused 3, and no row is read
unfoldable pub checked_stack : Given → StackRan
checked_stack g = cond (even g) (stack_in g) (grounded uneven_table)

-- ---- where Object's number is not all ones it is a class

abbrev pub Within : ℕ → Option ℕ → Type 0
Within n none = Unit {0}
Within n (some i) = i < n
