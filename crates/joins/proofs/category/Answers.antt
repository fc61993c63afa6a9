-- `category` meets its contract, by dimensions and tag.
use native.Mathlib.Omega.{arith}
use Rattle.ty.specs.Steps.{legal-category}
use Rattle.joins.specs.Lists.{category-array, category-primitive, category-object}
use Rattle.joins.proofs.category.Goals as goal

pub returns-then-w-ge-DIMENSION : goal.returns-then-w-ge-DIMENSION
returns-then-w-ge-DIMENSION c = (category-array c.args.t.word c.if-w-ge-DIMENSION.true, omega arith)

pub returns-then-w-eq0 : goal.returns-then-w-eq0
returns-then-w-eq0 c =
    let w = c.args.t.word in
    let p = c.requires in
    (category-primitive w c.if-w-ge-DIMENSION.false c.if-w-eq0.true, let l = legal-category 1024 w p.0 c.if-w-eq0.true in omega arith)

pub returns : goal.returns
returns c = (category-object c.args.t.word c.if-w-ge-DIMENSION.false c.if-w-eq0.false c.requires.1, omega arith)
