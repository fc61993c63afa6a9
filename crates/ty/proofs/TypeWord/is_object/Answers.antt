-- `TypeWord::is_object` meets its contract: with a dimension and without.
use Rattle.ty.specs.Steps.{object-array, object-flat}
use Rattle.ty.proofs.TypeWord.is_object.Goals as goal

pub returns-then-w-ge-DIMENSION : goal.returns-then-w-ge-DIMENSION
returns-then-w-ge-DIMENSION c = object-array c.args.self.word c.if-w-ge-DIMENSION.true

pub returns : goal.returns
returns c = object-flat c.args.self.word c.if-w-ge-DIMENSION.false
