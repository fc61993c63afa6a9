-- `put_word` meets its contract: the digits that are left are those from the next on.
use mathlib.Core.Path.{◌≡◌}
use Prim.Native.Nat.{◌+◌, ◌-◌}
use Rattle.lineout.specs.Printed.{hex_digits}
use Rattle.lineout.specs.Laws.{Writing}
use Rattle.lineout.proofs.put_word.Given as goal

abbrev pub invariant-loop-k : goal.invariant-loop-k
invariant-loop-k l = (l.at ≡ l.filled + l.k) × Writing (hex_digits 16 l.w) (hex_digits (16 - l.k) l.w) l.filled l.at l.initial.out l.out
