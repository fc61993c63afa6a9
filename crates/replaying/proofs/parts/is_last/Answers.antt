-- `is_last` meets its contract: a list that is not whole, or where it ends.
use Rattle.replaying.proofs.Steps.{not-last, last-tested}
use Rattle.replaying.proofs.parts.is_last.Goals as goal

pub returns-then-s-ne0 : goal.returns-then-s-ne0
returns-then-s-ne0 c = last-tested c.args.a.now c.args.from c.args.k c.place-s.result c.place-s.ensures.0 c.if-s-ne0.true

pub returns-else-s-ne0 : goal.returns-else-s-ne0
returns-else-s-ne0 c = not-last c.args.a.now c.args.from c.args.k c.place-s.result c.place-s.ensures.0 c.if-s-ne0.false
