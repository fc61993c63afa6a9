-- `open_layer` meets its contract: a fifth layer is refused.
use Rattle.layers.proofs.Steps.{opened-fifth, opened-next}
use Rattle.layers.proofs.open_layer.Goals as goal

pub returns-then-s-ge3 : goal.returns-then-s-ge3
returns-then-s-ge3 c = opened-fifth c.args.s c.if-s-ge3.true

pub returns : goal.returns
returns c = opened-next c.args.s c.if-s-ge3.false _ c.empty.ensures
