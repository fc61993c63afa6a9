-- `differs_from` meets its contract: by the words.
use Rattle.resolving.specs.Hints.{differs-not, differs-yes}
use Rattle.resolving.proofs.differs_from.Goals as goal

pub returns-then-hint-u : goal.returns-then-hint-u
returns-then-hint-u c =
    let a = c.args in
    differs-not a.hint a.found c.in-Some.u c.in-Some.is c.if-hint-u.true

pub returns-else-hint-u : goal.returns-else-hint-u
returns-else-hint-u c =
    let a = c.args in
    differs-yes a.hint a.found c.in-Some.u c.in-Some.is c.if-hint-u.false
