-- `put_word_or_dash` meets its contract.
use mathlib.Core.Path.{sym}
use Rattle.lineout.specs.Laws.{word-none, word-some, puts-as}
use Rattle.lineout.proofs.put_word_or_dash.Goals as goal

pub returns-then-w-eq18446744073709551615 : goal.returns-then-w-eq18446744073709551615
returns-then-w-eq18446744073709551615 c = puts-as _ _ _ _ _ _ (sym (word-none c.args.w c.if-w-eq18446744073709551615.true)) c.put_byte.ensures

pub returns : goal.returns
returns c = puts-as _ _ _ _ _ _ (sym (word-some c.args.w c.if-w-eq18446744073709551615.false)) c.put_word.ensures
