-- `list` meets its contract: the numbers at the place of the list.
use Rattle.replaying.proofs.Steps.{list-there}
use Rattle.replaying.proofs.parts.list.Goals as goal

pub returns : goal.returns
returns c = list-there c.args.a.now c.args.from c.args.k c.place-s.result _ c.place-s.ensures.0 c.numbers.ensures
