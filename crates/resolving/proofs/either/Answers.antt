-- `either` meets its contract: by what is there.
use Rattle.resolving.specs.Hints.{either-is}
use Rattle.resolving.proofs.either.Goals as goal

pub returns-in-Some : goal.returns-in-Some
returns-in-Some c =
    let a = c.args in
    either-is a.first a.second c.in-Some.u c.in-Some.is
