-- `byte_at` meets its contract: a byte is below 256.
use Rattle.std.proofs.Common.{arith}
use Rattle.rowframes.proofs.byte_at.Goals as goal

pub returns : goal.returns
returns c = let e = c.from.ensures in (e, omega (arith, c.type_inv.body c.args.i, e))
