-- `check_count` meets its contract.
use native.Mathlib.Omega.{arith}
use Rattle.problemrows.specs.Laws.{count-over, count-fits}
use Rattle.problemrows.proofs.check_count.Goals as goal

pub returns-then-components-gt-COMPONENTS : goal.returns-then-components-gt-COMPONENTS
returns-then-components-gt-COMPONENTS c = count-over c.args.components (omega (arith, c.if-components-gt-COMPONENTS.true))

pub returns : goal.returns
returns c = count-fits c.args.components (omega (arith, c.if-components-gt-COMPONENTS.false))
