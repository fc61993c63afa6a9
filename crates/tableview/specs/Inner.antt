-- The view and the world that the tables of the code give: keys and marks in slices, read by bisection and by bits. `Agrees` says that they
-- are those of the rows, so a caller need not read this.
use Rattle.view.specs.View.{View}
use Rattle.tables.specs.Table.{view_of}
use Rattle.lattice.specs.Lattice.{World}
use Rattle.lattice.specs.World.{world_of}
use Rattle.rows.specs.Rows.{State}
use Rattle.columns.specs.Given.{Given, table}

abbrev pub state_view : State → View
state_view s = view_of s.keys s.marks s.tables

abbrev pub state_world : State → World
state_world s = world_of s.keys s.marks s.tables

unfoldable pub view_in : Given → View
view_in g = state_view (table g).state

unfoldable pub world_in : Given → World
world_in g = state_world (table g).state
