-- `lowest_left` meets its contract.
use Rattle.supertype.specs.Stripped.{starts-least}
use Rattle.supertype.proofs.lowest_left.Goals as goal

pub lowest_by_walks-requires : goal.lowest_by_walks-requires
lowest_by_walks-requires c =
    let p = c.requires in
    (p.0, p.1, p.2, p.3, p.4, starts-least c.args.all.words c.lowest.result c.lowest.ensures)
