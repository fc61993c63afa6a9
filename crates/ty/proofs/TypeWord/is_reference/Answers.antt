-- `TypeWord::is_reference` meets its contract: with a dimension and without.
use Rattle.ty.specs.Steps.{reference-array, reference-flat}
use Rattle.ty.proofs.TypeWord.is_reference.Goals as goal

pub returns-then-w-ge-DIMENSION : goal.returns-then-w-ge-DIMENSION
returns-then-w-ge-DIMENSION c = reference-array c.args.self.word c.if-w-ge-DIMENSION.true

pub returns : goal.returns
returns c = reference-flat c.args.self.word c.if-w-ge-DIMENSION.false
