-- `add_bound` meets its contract: its tests in the order of the definition, and the key put.
use mathlib.Core.Path.{sym, ◌∙◌}
use native.Mathlib.Omega.{arith}
use lib.ListN.{take}
use Rattle.ty.specs.Round.{legal-more}
use Rattle.problemrows.specs.Laws.{adds-by, adds-refused, bound-outside, bound-kind, bound-type, bound-inside}
use Rattle.problemrows.proofs.add_bound.Goals as goal

pub returns-then-components-component : goal.returns-then-components-component
returns-then-components-component c =
    let a = c.args in
    adds-by (bound-outside a.names a.components a.component a.kind a.word (take a.n a.bounds.now) (omega (arith, c.if-components-component.true)))
    (adds-refused 6 a.n a.bounds.now (omega (arith, c.requires.2, c.requires.3)))

pub returns-then-kind-gt4 : goal.returns-then-kind-gt4
returns-then-kind-gt4 c =
    let a = c.args in
    adds-by (bound-kind a.names a.components a.component a.kind a.word (take a.n a.bounds.now) (omega (arith, c.if-components-component.false)) (omega (arith, c.if-kind-gt4.true)))
    (adds-refused 6 a.n a.bounds.now (omega (arith, c.requires.2, c.requires.3)))

pub put_bound-requires : goal.put_bound-requires
put_bound-requires c =
    let a = c.args in
    let legal = sym c.is_legal.ensures ∙ c.if-is_legal.true in
    (omega (arith, c.requires.1), omega arith, legal-more a.names 1024 a.word c.requires.0 legal, c.requires.2, c.requires.3, c.requires.4)

pub returns-then-is_legal : goal.returns-then-is_legal
returns-then-is_legal c =
    let a = c.args in
    let legal = sym c.is_legal.ensures ∙ c.if-is_legal.true in
    adds-by (bound-inside a.names a.components a.component a.kind a.word (take a.n a.bounds.now) (omega (arith, c.if-components-component.false)) (omega (arith, c.if-kind-gt4.false)) legal)
    c.put_bound.ensures

pub returns : goal.returns
returns c =
    let a = c.args in
    adds-by (bound-type a.names a.components a.component a.kind a.word (take a.n a.bounds.now) (omega (arith, c.if-components-component.false)) (omega (arith, c.if-kind-gt4.false)) (sym c.is_legal.ensures ∙ c.if-is_legal.false))
    (adds-refused 7 a.n a.bounds.now (omega (arith, c.requires.2, c.requires.3)))
