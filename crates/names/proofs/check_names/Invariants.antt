-- `check_names` meets its contract. The invariant: what is refused is what the rows from i on are refused, after the i names passed.
use mathlib.Core.Path.{◌≡◌}
use Prim.Native.Nat.{◌-◌, ◌≤◌}
use lib.ListN.{length, drop}
use Rattle.names.specs.Names.{name_of, check_rows, check_names}
use Rattle.names.proofs.check_names.Given as goal

abbrev pub invariant-loop-i : goal.invariant-loop-i
invariant-loop-i l = (length l.name_at ≡ length l.name_len) × (l.last ≤ length l.names) × (l.span ≤ length l.names - l.last) × (l.total ≤ 24576)
    × (check_names l.names l.name_at l.name_len ≡ check_rows l.names (drop l.i l.name_at) (drop l.i l.name_len) (name_of l.names l.last l.span) l.i l.total)
