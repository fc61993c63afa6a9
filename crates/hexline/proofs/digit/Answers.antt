-- `digit` meets its contract: digits, letters, below, between and above them.
use Rattle.std.proofs.Common.{◌≡◌, false, ℕ, ◌<◌, sym, ap, arith}
use Rattle.std.proofs.Math.Option.{none}
use Rattle.hexline.specs.Hex.{digit}
use Rattle.hexline.specs.Laws.{is_digit, value_of, digit-below, digit-number, digit-between, digit-letter, digit-above}
use Rattle.hexline.proofs.digit.Goals as goal

pub returns-in-48-to-57 : goal.returns-in-48-to-57
returns-in-48-to-57 c = let e = digit-number c.args.b (omega arith) (omega arith) in (sym (ap is_digit e), sym (ap value_of e), omega arith)

pub returns-in-97-to-102 : goal.returns-in-97-to-102
returns-in-97-to-102 c = let e = digit-letter c.args.b (omega arith) (omega arith) in (sym (ap is_digit e), sym (ap value_of e), omega arith)

none_is : (b : ℕ) → digit b ≡ none → (false ≡ is_digit (digit b)) × (0 ≡ value_of (digit b)) × (0 < 16)
none_is b e = (sym (ap is_digit e), sym (ap value_of e), omega arith)

pub returns-in_default : goal.returns-in_default
returns-in_default c = none_is c.args.b (digit-below c.args.b (omega arith))

pub returns-in_default-2 : goal.returns-in_default-2
returns-in_default-2 c = none_is c.args.b (digit-between c.args.b (omega arith) (omega arith))

pub returns-in_default-3 : goal.returns-in_default-3
returns-in_default-3 c = none_is c.args.b (digit-above c.args.b (omega arith))
