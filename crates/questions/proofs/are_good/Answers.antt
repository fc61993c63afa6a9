-- `are_good` meets its contract: words or classes, by what is asked.
use mathlib.Core.Path.{◌∙◌}
use Rattle.questions.specs.Laws.{good-types, good-classes}
use Rattle.questions.proofs.are_good.Goals as goal

pub returns-then-types : goal.returns-then-types
returns-then-types c =
    let a = c.args in
    c.are_types.ensures ∙ good-types a.names a.a a.b a.types c.if-types.true

pub returns : goal.returns
returns c =
    let a = c.args in
    c.are_classes.ensures ∙ good-classes a.names a.a a.b a.types c.if-types.false
