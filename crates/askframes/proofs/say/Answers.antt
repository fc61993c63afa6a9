-- `say` meets its contract.
use mathlib.Core.Path.{ap}
use Rattle.framestate.specs.FrameState.{framed}
use Rattle.askframes.proofs.say.Goals as goal

pub returns : goal.returns
returns c = ap (framed c.args.said) c.asked-m.ensures
