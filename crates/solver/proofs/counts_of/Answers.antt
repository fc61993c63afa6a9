-- `counts_of` meets its contract: by whether there was a refusal.
use mathlib.Core.Path.{sym}
use Rattle.solver.specs.Solver.{counts-refused, counts-ended}
use Rattle.solver.proofs.counts_of.Goals as goal

pub returns-then-s-ne0 : goal.returns-then-s-ne0
returns-then-s-ne0 c = sym (counts-refused c.args.r c.if-s-ne0.true)

pub returns : goal.returns
returns c = sym (counts-ended c.args.r c.if-s-ne0.false)
