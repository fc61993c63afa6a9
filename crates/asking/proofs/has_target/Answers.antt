-- `has_target` meets its contract: the root's partners are a run.
use Rattle.asking.specs.Steps.{has-partner}
use Rattle.asking.proofs.has_target.Goals as goal

pub returns : goal.returns
returns c =
    let x = c.args in
    has-partner x.root x.flows.now c.requires c.run-of.result c.run-of.ensures
