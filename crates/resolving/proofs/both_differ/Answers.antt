-- `both_differ` meets its contract: by the words of both.
use mathlib.Core.Path.{◌∙◌}
use Rattle.resolving.specs.Hints.{both-is}
use Rattle.resolving.proofs.both_differ.Goals as goal

pub returns-in-Some : goal.returns-in-Some
returns-in-Some c =
    let a = c.args in
    c.differs_from.ensures ∙ both-is a.hint a.found c.in-Some.u c.in-Some.is
