-- `say` meets its contract: a refusal with the numbers as they were, or solved with those after it.
use mathlib.Core.Path.{ap, ◌∙◌}
use Rattle.framestate.specs.declared.Said.TheVariants.{Solved}
use Rattle.framestate.specs.declared.Numbers.{Numbers}
use Rattle.framestate.specs.FrameState.{framed}
use Rattle.solveframe.specs.Leaving.{said-refused, said-solved}
use Rattle.solveframe.proofs.say.Goals as goal

pub returns-then-refusal-ne0 : goal.returns-then-refusal-ne0
returns-then-refusal-ne0 c = c.refuse.ensures ∙ said-refused c.args.refusal c.args.n c.if-refusal-ne0.true

pub returns : goal.returns
returns c = ap (λ (m : Numbers). framed Solved m) c.asked.ensures ∙ said-solved c.args.refusal c.args.n c.if-refusal-ne0.false
