-- `produced_if` meets its contract: asked for or not.
use mathlib.Core.Path.{sym, ap, ◌∙◌}
use mathlib.Core.Bool.{Bool}
use Rattle.ty.specs.Answers.{maybe_word}
use Rattle.lattice.specs.World.{world_of}
use Rattle.solving.specs.Solving.{produced_type}
use Rattle.turning.specs.Turning.{state_in, only_if}
use Rattle.turning.proofs.produced_if.Goals as goal

pub returns-then-asked : goal.returns-then-asked
returns-then-asked c =
    let x = c.args in
    c.produced_of.ensures
    ∙ sym (ap (λ (a : Bool). only_if a (maybe_word (produced_type (world_of x.pairs.now x.marks.now x.t) (state_in x.keys.now x.root)))) c.if-asked.true)
