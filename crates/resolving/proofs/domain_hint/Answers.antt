-- `domain_hint` meets its contract: the hint by the upper bounds.
use mathlib.Core.Path.{ap, ◌∙◌}
use mathlib.Core.List.{map}
use mathlib.Core.Option.{Option}
use Rattle.ty.specs.Types.{ArgType}
use Rattle.ty.specs.Words.{type_of}
use Rattle.ty.specs.Answers.{maybe_word}
use Rattle.lattice.specs.World.{world_of}
use Rattle.resolving.specs.Bounds.{fitting, by_hint}
use Rattle.resolving.proofs.domain_hint.Goals as goal

pub returns : goal.returns
unfolding by_hint
returns c =
    let a = c.args in
    c.fits_upper.ensures ∙ ap (λ (o : Option ArgType). maybe_word (fitting (world_of a.pairs.now a.marks.now a.t) o (map type_of a.upper.now))) c.one_hint-hint.ensures.1
