-- `place` meets its contract: list after list, none of which is outside the slice.
use Rattle.std.proofs.Common.{arith}
use Rattle.replaying.proofs.Steps.{place-first, place-next, place-done}
use Rattle.replaying.proofs.parts.place.Goals as goal

pub loop-i-init : goal.loop-i-init
loop-i-init c = (place-first c.args.a.now c.args.from c.after-s.result c.after-s.ensures.is, (c.after-s.ensures.ordered, c.after-s.ensures.inside))

pub loop-i-preserved : goal.loop-i-preserved
loop-i-preserved c = (place-next c.args.a.now c.args.from c.loop-i.i c.loop-i.s c.after-s-in-loop-i.result c.loop-i.invariant.0 c.after-s-in-loop-i.ensures.is, (c.after-s-in-loop-i.ensures.ordered, c.after-s-in-loop-i.ensures.inside))

pub returns : goal.returns
returns c = (place-done c.args.a.now c.args.from c.loop-i.i c.args.k c.loop-i.s c.loop-i.invariant.0 (omega arith) (omega arith), c.loop-i.invariant.1)
