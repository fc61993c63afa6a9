-- `TypeWord::categories` meets its contract, by dimensions and tag.
use mathlib.Core.Path.{◌∙◌}
use native.Mathlib.Omega.{arith}
use Rattle.ty.specs.Steps.{mask-array, mask-primitive, mask-object, mask-unknown, legal-category, one-shifted}
use Rattle.ty.proofs.TypeWord.categories.Goals as goal

pub returns-then-w-ge-DIMENSION : goal.returns-then-w-ge-DIMENSION
returns-then-w-ge-DIMENSION c = mask-array c.args.self.word c.if-w-ge-DIMENSION.true

pub overflow_shl-result-then-tag-eq0 : goal.overflow_shl-result-then-tag-eq0
overflow_shl-result-then-tag-eq0 c = let l = legal-category 1024 c.args.self.word c.requires c.if-tag-eq0.true in omega arith

pub returns-then-tag-eq0 : goal.returns-then-tag-eq0
returns-then-tag-eq0 c =
    let w = c.args.self.word in
    let l = legal-category 1024 w c.requires c.if-tag-eq0.true in
    one-shifted _ (omega arith) ∙ mask-primitive w c.if-w-ge-DIMENSION.false c.if-tag-eq0.true

pub returns-then-tag-eq1 : goal.returns-then-tag-eq1
returns-then-tag-eq1 c = mask-object c.args.self.word c.if-w-ge-DIMENSION.false c.if-tag-eq1.true

pub returns : goal.returns
returns c = c.list_mask.ensures ∙ mask-unknown c.args.self.word c.if-w-ge-DIMENSION.false c.if-tag-eq0.false c.if-tag-eq1.false
