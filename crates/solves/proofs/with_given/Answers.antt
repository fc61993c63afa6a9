-- `with_given` meets its contract.
use Rattle.solves.specs.Choice.{inside-more}
use Rattle.solves.proofs.with_given.Goals as goal

pub returns-then-class-names : goal.returns-then-class-names
returns-then-class-names c =
    let a = c.args in
    inside-more a.names c.load-class.result a.s.words c.with.result.words c.requires c.if-class-names.true c.with.ensures
