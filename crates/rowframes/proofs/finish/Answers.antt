-- `finish` meets its contract.
use mathlib.Core.Path.{◌∙◌}
use native.Mathlib.Omega.{arith}
use Rattle.rowframes.specs.RowFrames.{taken-none, taken-all}
use Rattle.rowframes.proofs.finish.Goals as goal

pub returns-then-refusal-ne0 : goal.returns-then-refusal-ne0
returns-then-refusal-ne0 c = let a = c.args in c.refuse.ensures ∙ taken-none a.refusal a.n a.with c.if-refusal-ne0.true

pub returns : goal.returns
returns c = let a = c.args in c.accept.ensures ∙ taken-all a.refusal a.n a.with (omega arith)
