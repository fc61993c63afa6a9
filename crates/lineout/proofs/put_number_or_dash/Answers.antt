-- `put_number_or_dash` meets its contract: a word has at most 20 digits.
use mathlib.Core.Path.{sym}
use native.Mathlib.Omega.{arith}
use Rattle.lineout.specs.Laws.{decimal-short, number-none, number-some, puts-as}
use Rattle.lineout.proofs.put_number_or_dash.Goals as goal

pub returns-then-n-eq18446744073709551615 : goal.returns-then-n-eq18446744073709551615
returns-then-n-eq18446744073709551615 c = puts-as _ _ _ _ _ _ (sym (number-none c.args.n c.if-n-eq18446744073709551615.true)) c.put_byte.ensures

pub put_decimal-requires : goal.put_decimal-requires
put_decimal-requires c = let d = decimal-short c.args.n (omega arith) in omega arith

pub returns : goal.returns
returns c = puts-as _ _ _ _ _ _ (sym (number-some c.args.n c.if-n-eq18446744073709551615.false)) c.put_decimal.ensures
