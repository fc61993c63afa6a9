-- `TypeWord::is_known` meets its contract: with a dimension and without.
use Rattle.ty.specs.Steps.{known-array, known-flat}
use Rattle.ty.proofs.TypeWord.is_known.Goals as goal

pub returns-then-w-ge-DIMENSION : goal.returns-then-w-ge-DIMENSION
returns-then-w-ge-DIMENSION c = known-array c.args.self.word c.if-w-ge-DIMENSION.true

pub returns : goal.returns
returns c = known-flat c.args.self.word c.if-w-ge-DIMENSION.false
