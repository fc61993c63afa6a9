-- `good_digit` meets its contract, by where the digit stands.
use mathlib.Core.Path.{ap, ◌∙◌}
use mathlib.Core.Bool.{not}
use Rattle.ty.specs.Steps.{digit-past, digit-large, digit-in}
use Rattle.ty.proofs.good_digit.Goals as goal

pub returns-then-n-i : goal.returns-then-n-i
returns-then-n-i c = let a = c.args in digit-past a.load a.n a.i c.if-n-i.true _ c.digit-d.ensures

pub returns-then-d-gt-ARRAY : goal.returns-then-d-gt-ARRAY
returns-then-d-gt-ARRAY c = let a = c.args in digit-large a.load a.n a.i c.if-n-i.false _ c.digit-d.ensures c.if-d-gt-ARRAY.true

pub returns : goal.returns
returns c =
    let a = c.args in
    ap not c.contains-again.ensures
    ∙ digit-in a.load a.n a.i c.if-n-i.false _ c.digit-d.ensures c.if-d-gt-ARRAY.false
