-- `kept` meets its contract: by the test.
use mathlib.Core.Path.{sym, ap}
use mathlib.Core.Bool.{Bool}
use Rattle.resolving.specs.Bounds.{kept_if}
use Rattle.resolving.proofs.kept.Goals as goal

pub returns-then-passes : goal.returns-then-passes
returns-then-passes c =
    let a = c.args in
    ap (λ (b : Bool). kept_if b a.ty) (sym c.if-passes.true)
