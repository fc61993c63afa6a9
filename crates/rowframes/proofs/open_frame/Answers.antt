-- `open_frame` meets its contract: a layer more, or 8.
use Rattle.rowframes.specs.RowFrames.{open-frames}
use Rattle.rowframes.proofs.open_frame.Goals as goal

pub returns : goal.returns
returns c = open-frames c.args.n _ _ _ _ c.open_layer-o.ensures c.recorded-with.ensures c.finish.ensures
