-- `is_class_kind` meets its contract.
use Rattle.stepping.specs.Needs.{class-low, class-high}
use Rattle.stepping.proofs.is_class_kind.Goals as goal

pub returns-then-kind-le2 : goal.returns-then-kind-le2
returns-then-kind-le2 c = class-low c.args.kind c.if-kind-le2.true

pub returns : goal.returns
returns c = class-high c.args.kind c.if-kind-le2.false
