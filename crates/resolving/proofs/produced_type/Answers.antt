-- `produced_type` meets its contract: the exact bounds if there are any, else the lower ones.
use mathlib.Core.Path.{ap, ◌∙◌}
use mathlib.Core.List.{[]}
use Rattle.ty.specs.Answers.{maybe_word}
use Rattle.lattice.specs.World.{world_of}
use Rattle.resolving.specs.Laws.{produced-lower, produced-exact}
use Rattle.resolving.proofs.produced_type.Goals as goal

pub returns-then-exact-eq0 : goal.returns-then-exact-eq0
returns-then-exact-eq0 c =
    let a = c.args in
    c.join_all.ensures ∙ ap maybe_word (produced-lower (world_of a.pairs.now a.marks.now a.t) a.exact.now a.lower.now [] [] [] c.if-exact-eq0.true)

pub returns : goal.returns
returns c =
    let a = c.args in
    c.join_all-2.ensures ∙ ap maybe_word (produced-exact (world_of a.pairs.now a.marks.now a.t) a.exact.now a.lower.now [] [] [] c.if-exact-eq0.false)
