-- `distance` meets its contract.
use mathlib.Core.Path.{sym, ◌∙◌}
use Rattle.tables.specs.Table.{view_of}
use Rattle.hierarchy.proofs.Walks.{distance-found, distance-far, distance-none}
use Rattle.hierarchy.proofs.distance.Goals as goal

pub returns-in-Some : goal.returns-in-Some
returns-in-Some c =
    let a = c.args in
    distance-found (view_of a.pairs.now a.marks.now a.t) a.value a.expected _ (sym c.in-Some.is ∙ c.walk_to-w.ensures.at-level)

pub returns-then-expected-t : goal.returns-then-expected-t
returns-then-expected-t c =
    let a = c.args in
    distance-far (view_of a.pairs.now a.marks.now a.t) a.value a.expected (sym c.in_default.is ∙ c.walk_to-w.ensures.at-level) c.if-expected-t.true

pub returns : goal.returns
returns c =
    let a = c.args in
    distance-none (view_of a.pairs.now a.marks.now a.t) a.value a.expected (sym c.in_default.is ∙ c.walk_to-w.ensures.at-level) c.if-expected-t.false
