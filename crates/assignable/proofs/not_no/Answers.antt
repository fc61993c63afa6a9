-- `not_no` meets its contract.
use mathlib.Core.Path.{sym, ap}
use Rattle.lattice.specs.Lattice.{not_no}
use Rattle.assignable.proofs.not_no.Goals as goal

pub returns-in-Yes : goal.returns-in-Yes
returns-in-Yes c = ap not_no (sym c.in-Yes.is)

pub returns-in-No : goal.returns-in-No
returns-in-No c = ap not_no (sym c.in-No.is)

pub returns-in-Unknown : goal.returns-in-Unknown
returns-in-Unknown c = ap not_no (sym c.in-Unknown.is)
