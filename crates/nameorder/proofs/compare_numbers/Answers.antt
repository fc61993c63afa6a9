-- `compare_numbers` meets its contract.
use mathlib.Core.Path.{◌≡◌, sym, ap, ◌∙◌}
use native.Mathlib.Omega.{arith}
use Rattle.order.specs.Laws.{numbers-less, numbers-same, numbers-greater}
use Rattle.order.specs.Compare.{compare_numbers}
use Rattle.nameorder.proofs.compare_numbers.Goals as goal

pub returns-then-a-b : goal.returns-then-a-b
returns-then-a-b c = sym (numbers-less _ _ c.if-a-b.true)

pub returns-then-b-a : goal.returns-then-b-a
returns-then-b-a c = sym (numbers-greater _ _ c.if-b-a.true)

pub returns : goal.returns
returns c =
    let a = c.args in
    sym (ap (compare_numbers a.a) (let e : a.b ≡ a.a = omega arith in e) ∙ numbers-same a.a)
