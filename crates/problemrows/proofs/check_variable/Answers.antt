-- `check_variable` meets its contract: its tests in the order of the definition.
use native.Mathlib.Omega.{arith}
use Rattle.problemrows.specs.Laws.{variable-outside, variable-over, variable-fits}
use Rattle.problemrows.proofs.check_variable.Goals as goal

pub returns-then-components-component : goal.returns-then-components-component
returns-then-components-component c = let a = c.args in variable-outside a.components a.n a.component (omega (arith, c.if-components-component.true))

pub returns-then-n-ge-VARIABLES : goal.returns-then-n-ge-VARIABLES
returns-then-n-ge-VARIABLES c = let a = c.args in variable-over a.components a.n a.component (omega (arith, c.if-components-component.false)) (omega (arith, c.if-n-ge-VARIABLES.true))

pub returns : goal.returns
returns c = let a = c.args in variable-fits a.components a.n a.component (omega (arith, c.if-components-component.false)) (omega (arith, c.if-n-ge-VARIABLES.false))
