-- `element_in` meets its contract: the element of a legal word is that of its type.
use mathlib.Core.Path.{◌∙◌}
use Rattle.resolving.specs.Laws.{element-is}
use Rattle.resolving.proofs.element_in.Goals as goal

pub returns-in-Some : goal.returns-in-Some
returns-in-Some c =
    let a = c.args in
    c.element.ensures ∙ element-is a.array c.in-Some.u c.in-Some.is c.requires
