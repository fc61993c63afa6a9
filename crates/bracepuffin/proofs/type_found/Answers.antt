-- `type_found` meets its contract, by the base.
use mathlib.Core.Path.{sym, ap}
use Rattle.bracepuffin.specs.Boundary.{type_found}
use Rattle.bracepuffin.proofs.type_found.Goals as goal

pub returns-in-Simple : goal.returns-in-Simple
returns-in-Simple c = let a = c.args in sym (ap (type_found a.dims) c.in-Simple.is)

pub returns-in-Class : goal.returns-in-Class
returns-in-Class c = let a = c.args in sym (ap (type_found a.dims) c.in-Class.is)
