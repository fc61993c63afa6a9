-- `bytes` meets its contract: the part between two places inside.
use Rattle.replaying.proofs.Steps.{part-clipped}
use Rattle.replaying.proofs.parts.bytes.Goals as goal

pub returns : goal.returns
returns c =
    let a = c.args in
    part-clipped a.a.now a.start a.end c.inside-s.result c.inside-s.ensures.0
