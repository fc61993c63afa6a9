-- `hex_digit` meets its contract.
use mathlib.Core.Path.{sym, ap}
use mathlib.Core.Bool.{Bool, cond}
use Prim.Native.Nat.{◌+◌}
use native.Mathlib.Omega.{arith}
use borrow.Author.Tests.{lt-ltb, le-ltb}
use Rattle.lineout.proofs.hex_digit.Goals as goal

pub returns-then-d-lt10 : goal.returns-then-d-lt10
returns-then-d-lt10 c = let d = c.args.d in sym (ap (λ (b : Bool). cond b (48 + d) (87 + d)) (lt-ltb d 10 (omega arith)))

pub returns : goal.returns
returns c = let d = c.args.d in sym (ap (λ (b : Bool). cond b (48 + d) (87 + d)) (le-ltb d 10 (omega arith)))
