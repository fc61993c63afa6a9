-- `inside` meets its contract: turned places, places past the end, places that stand so.
use Rattle.std.proofs.Common.{arith}
use Rattle.replaying.proofs.Steps.{clip-turned, clip-past, clip-there}
use Rattle.replaying.proofs.parts.inside.Goals as goal

pub returns-then-end-start : goal.returns-then-end-start
returns-then-end-start c = let a = c.args in (clip-turned a.start a.end a.room c.if-end-start.true, (omega arith, omega arith))

pub returns-then-room-end : goal.returns-then-room-end
returns-then-room-end c = let a = c.args in (clip-past a.start a.end a.room c.if-end-start.false c.if-room-end.true, (omega arith, omega arith))

pub returns : goal.returns
returns c = let a = c.args in (clip-there a.start a.end a.room c.if-end-start.false c.if-room-end.false, (c.if-end-start.false, c.if-room-end.false))
