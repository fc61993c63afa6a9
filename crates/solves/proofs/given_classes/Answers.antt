-- `given_classes` meets its contract: so far only classes of the table are in.
use Rattle.solves.specs.Choice.{inside-none}
use Rattle.solves.proofs.given_classes.Goals as goal

pub loop-key-init : goal.loop-key-init
loop-key-init c = inside-none _ c.empty-s.result.words c.empty-s.ensures

pub loop-key-preserved : goal.loop-key-preserved
loop-key-preserved c = c.with_given-s.ensures

pub returns : goal.returns
returns c = c.loop-key.invariant
