-- `word_of` meets its contract: what stands there already, or the answer anew.
use mathlib.Core.Path.{ap, ◌∙◌}
use native.Mathlib.Omega.{arith}
use Rattle.lattice.specs.World.{world_of}
use Rattle.solving.specs.Solving.{state_of, resolve_state}
use Rattle.answering.specs.Answering.{table_in, number_in}
use Rattle.answering.specs.FromFinal.{number-word}
use Rattle.answering.proofs.word_of.Goals as goal

pub offset_bounds-into-seen : goal.offset_bounds-into-seen
offset_bounds-into-seen c = omega (arith, (c.requires.4 c.if-seen-ne0.true).0, c.well_formed.1.1.1.1.1.1.0)

pub bounds-into-seen : goal.bounds-into-seen
bounds-into-seen c = omega (arith, (c.requires.4 c.if-seen-ne0.true).0)

pub returns-then-seen-ne0 : goal.returns-then-seen-ne0
returns-then-seen-ne0 c = (c.requires.4 c.if-seen-ne0.true).1

pub returns : goal.returns
returns c =
    let x = c.args in
    c.word_in.ensures ∙ ap number_in c.answer.ensures ∙ number-word (resolve_state (world_of x.pairs.now x.marks.now x.t) (state_of (table_in x.keys.now) x.component))
