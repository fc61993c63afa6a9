-- `TypeWord::is_primitive` meets its contract: with a dimension and without.
use Rattle.ty.specs.Steps.{primitive-array, primitive-flat}
use Rattle.ty.proofs.TypeWord.is_primitive.Goals as goal

pub returns-then-w-ge-DIMENSION : goal.returns-then-w-ge-DIMENSION
returns-then-w-ge-DIMENSION c = primitive-array c.args.self.word c.if-w-ge-DIMENSION.true

pub returns : goal.returns
returns c = primitive-flat c.args.self.word c.if-w-ge-DIMENSION.false
