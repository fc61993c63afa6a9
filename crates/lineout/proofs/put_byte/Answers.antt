-- `put_byte` meets its contract.
use Rattle.lineout.specs.Laws.{puts-one}
use Rattle.lineout.proofs.put_byte.Goals as goal

pub returns : goal.returns
returns c = puts-one c.args.filled c.args.out.now c.args.b c.requires
