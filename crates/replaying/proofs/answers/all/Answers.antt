-- `all` meets its contract: the verdict says what the comparison says.
use Rattle.replaying.proofs.Steps.{judges-if}
use Rattle.replaying.proofs.answers.all.Goals as goal

pub returns : goal.returns
returns c = judges-if c.judged.result _ c.judged.ensures c.is_same.ensures
