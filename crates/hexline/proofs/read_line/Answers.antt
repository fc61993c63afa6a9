-- `read_line` meets its contract: too long, odd, no digits, or the bytes.
use mathlib.Core.Path.{sym, ◌∙◌}
use Rattle.std.proofs.Common.{◌≡◌, true, rules, arith}
use Rattle.hexline.specs.Hex.{hex_bytes, is_hex}
use Rattle.hexline.specs.Laws.{hex-length, hex-odd, bad-none, bad-long, reads-none, reads-some}
use Rattle.hexline.proofs.read_line.Goals as goal

pub returns-then-line-gt1024 : goal.returns-then-line-gt1024
returns-then-line-gt1024 c = let a = c.args in reads-none (hex_bytes a.line.now) a.frame.now (bad-long a.line.now (omega arith))

pub returns-then-line-eq1 : goal.returns-then-line-eq1
returns-then-line-eq1 c = let a = c.args in reads-none (hex_bytes a.line.now) a.frame.now (bad-none a.line.now (hex-odd a.line.now (omega arith)))

pub returns-then-not-is_hex : goal.returns-then-not-is_hex
returns-then-not-is_hex c = let a = c.args in reads-none (hex_bytes a.line.now) a.frame.now (bad-none a.line.now (sym c.is_hex.ensures ∙ search rules))

pub put_bytes-requires : goal.put_bytes-requires
put_bytes-requires c = (sym c.is_hex.ensures ∙ search rules, omega arith)

pub returns : goal.returns
returns c =
    let a = c.args in
    let h : is_hex (hex_bytes a.line.now) ≡ true = sym c.is_hex.ensures ∙ search rules in
    let l = hex-length a.line.now h in
    reads-some (hex_bytes a.line.now) a.frame.now _ _ h (omega arith) (omega arith) c.put_bytes.ensures
