-- `element_of` meets its contract: the element of what `or_upper` hands on.
use mathlib.Core.Path.{ap, ◌∙◌}
use mathlib.Core.Option.{Option}
use Rattle.ty.specs.Types.{ArgType}
use Rattle.ty.specs.Answers.{maybe_word}
use Rattle.solving.specs.Solving.{element_of}
use Rattle.resolving.proofs.element_of.Goals as goal

pub returns : goal.returns
returns c =
    let a = c.args in
    c.element_in.ensures ∙ ap (λ (o : Option ArgType). maybe_word (element_of o)) c.or_upper-array.ensures.1
