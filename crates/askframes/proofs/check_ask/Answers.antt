-- `check_ask` meets its contract.
use native.Mathlib.Omega.{arith}
use Rattle.askframes.specs.AskFrames.{ask-first, ask-second, ask-object, ask-none}
use Rattle.askframes.proofs.check_ask.Goals as goal

pub returns-then-t-a : goal.returns-then-t-a
returns-then-t-a c = let a = c.args in ask-first a.t a.a a.b (omega arith)

pub returns-then-t-b : goal.returns-then-t-b
returns-then-t-b c = let a = c.args in ask-second a.t a.a a.b (omega arith) (omega arith)

pub returns-then-t-eq18446744073709551615 : goal.returns-then-t-eq18446744073709551615
returns-then-t-eq18446744073709551615 c = let a = c.args in ask-object a.t a.a a.b (omega arith) (omega arith) c.if-t-eq18446744073709551615.true

pub returns : goal.returns
returns c = let a = c.args in ask-none a.t a.a a.b (omega arith) (omega arith) c.if-t-eq18446744073709551615.false
