-- `TypeWord::is_array` meets its contract.
use Rattle.ty.specs.Steps.{array-test}
use Rattle.ty.proofs.TypeWord.is_array.Goals as goal

pub returns : goal.returns
returns c = array-test c.args.self.word
