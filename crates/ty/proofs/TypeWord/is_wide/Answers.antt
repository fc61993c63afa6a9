-- `TypeWord::is_wide` meets its contract, by dimensions and tag.
use mathlib.Core.Path.{◌∙◌}
use Rattle.ty.specs.Steps.{wide-array, wide-primitive, wide-object, wide-unknown}
use Rattle.ty.proofs.TypeWord.is_wide.Goals as goal

pub returns-then-w-ge-DIMENSION : goal.returns-then-w-ge-DIMENSION
returns-then-w-ge-DIMENSION c = wide-array c.args.self.word c.if-w-ge-DIMENSION.true

pub returns-then-tag-eq0 : goal.returns-then-tag-eq0
returns-then-tag-eq0 c = c.wide_category.ensures ∙ wide-primitive c.args.self.word c.if-w-ge-DIMENSION.false c.if-tag-eq0.true

pub returns-then-tag-eq1 : goal.returns-then-tag-eq1
returns-then-tag-eq1 c = wide-object c.args.self.word c.if-w-ge-DIMENSION.false c.if-tag-eq1.true

pub returns : goal.returns
returns c = c.all_wide.ensures ∙ wide-unknown c.args.self.word c.if-w-ge-DIMENSION.false c.if-tag-eq0.false c.if-tag-eq1.false
