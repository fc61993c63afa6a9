-- `are_classes` meets its contract: the first number, then the second one.
use Rattle.questions.specs.Laws.{classes-right, classes-left}
use Rattle.questions.proofs.are_classes.Goals as goal

pub returns-then-a-names : goal.returns-then-a-names
returns-then-a-names c =
    let a = c.args in
    classes-right a.names a.a a.b c.if-a-names.true

pub returns : goal.returns
returns c =
    let a = c.args in
    classes-left a.names a.a a.b c.if-a-names.false
