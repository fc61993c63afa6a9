-- `put_bytes` meets its contract: the bytes that are left are those of the line from the next pair on.
use mathlib.Core.Path.{◌≡◌}
use mathlib.Core.Bool.{true}
use Prim.Native.Nat.{◌*◌}
use lib.ListN.{drop}
use Rattle.hexline.specs.Hex.{hex_bytes, is_hex, bytes_of}
use Rattle.hexline.specs.Laws.{Filling}
use Rattle.hexline.proofs.put_bytes.Given as goal

abbrev pub invariant-loop-k : goal.invariant-loop-k
invariant-loop-k l = (is_hex (hex_bytes (drop (2 * l.k) l.line)) ≡ true) × Filling (bytes_of (hex_bytes l.line)) (bytes_of (hex_bytes (drop (2 * l.k) l.line))) l.initial.frame l.frame l.k
