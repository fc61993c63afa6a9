-- `not_reaching` meets its contract: the test is whether d is reached.
use mathlib.Core.Path.{◌∙◌}
use Rattle.std.proofs.Common.{rules}
use Rattle.sets.specs.Sets.{at, members}
use Rattle.view.specs.View.{reach}
use Rattle.tables.specs.Table.{view_of}
use Rattle.supertype.specs.Stripped.{by-walks}
use Rattle.supertype.proofs.not_reaching.Goals as goal

pub returns : goal.returns
returns c =
    let a = c.args in
    let v = view_of a.pairs.now a.marks.now a.t in
    c.without_those.ensures (λ x. reach v x a.d) (λ x b h q. search rules) ∙ by-walks v a.d a.s.words (members (at a.s.words) 0 1024)
