-- `lowest_prepared` meets its contract: what is met is of the set.
use Rattle.supertype.specs.Stripped.{starts-least}
use Rattle.supertype.proofs.lowest_prepared.Goals as goal

pub lowest_by_walks-requires : goal.lowest_by_walks-requires
lowest_by_walks-requires c =
    let p = c.requires in
    (p.0, p.1, p.2, p.3, p.4, starts-least c.args.others.words c.lowest.result c.lowest.ensures)

pub first_near-met-requires : goal.first_near-met-requires
first_near-met-requires c = c.requires.2

pub start_of-start-requires : goal.start_of-start-requires
start_of-start-requires c = (c.requires.2, λ d m. (c.first_near-met.ensures.is-in d m).0)

pub lowest_by_walks-requires-2 : goal.lowest_by_walks-requires-2
lowest_by_walks-requires-2 c =
    let p = c.requires in
    (p.0, p.1, p.2, p.3, p.4, c.start_of-start.ensures)
