-- `reached` meets its contract: 1,024 is never found, so the walk goes to its end.
use Rattle.tables.specs.Table.{view_of}
use Rattle.hierarchy.proofs.Walks.{never-found}
use Rattle.hierarchy.proofs.reached.Goals as goal

pub returns : goal.returns
returns c =
    let a = c.args in
    c.walk_to-w.ensures.has-seen (never-found (view_of a.pairs.now a.marks.now a.t) a.x)
