-- `reaches` meets its contract.
use mathlib.Core.Path.{◌∙◌}
use Rattle.tables.specs.Table.{view_of}
use Rattle.hierarchy.proofs.Walks.{tells}
use Rattle.hierarchy.proofs.reaches.Goals as goal

pub returns : goal.returns
returns c =
    let a = c.args in
    let w = c.walk_to-w in
    c.is_some.ensures ∙ tells (view_of a.pairs.now a.marks.now a.t) a.x a.y w.result.level w.ensures.at-level
