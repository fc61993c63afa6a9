-- `join_array` meets its contract.
use mathlib.Core.Path.{ap, ◌∙◌}
use Rattle.ty.specs.Words.{word_of}
use Rattle.joins.specs.Cases.{array-object, array-other}
use Rattle.joins.proofs.join_array.Goals as goal

pub returns-then-other-object : goal.returns-then-other-object
returns-then-other-object c =
    let a = c.args in
    c.object.ensures ∙ array-object a.object a.array.word a.other.word c.requires.2 c.if-other-object.true

pub returns : goal.returns
returns c =
    let a = c.args in
    c.unknown_union.ensures ∙ ap word_of (array-other a.object a.array.word a.other.word c.requires.1 c.if-other-object.false)
