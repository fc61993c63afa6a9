-- `solve_layers` meets its contract: the solve in an array with room for four layers.
use borrow.Author.Rules.{rules}
use Rattle.layercolumns.specs.Laws.{room-layers}
use Rattle.solvedoor.proofs.solve_layers.Goals as goal

pub solve_over-requires : goal.solve_over-requires
solve_over-requires c =
    let p = c.requires in
    (room-layers _ _ (search rules), search rules, p.0, p.1)

pub returns : goal.returns
returns c = c.solve_over.ensures
