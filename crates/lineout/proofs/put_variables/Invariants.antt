-- `put_variables` meets its contract: the lines that are left are those from the next variable on.
use Prim.Native.Nat.{◌+◌, ◌*◌, ◌≤◌}
use lib.ListN.{drop}
use Rattle.lineout.specs.Printed.{variable_lines}
use Rattle.lineout.specs.Laws.{Writing}
use Rattle.lineout.proofs.put_variables.Given as goal

abbrev pub invariant-loop-i : goal.invariant-loop-i
invariant-loop-i l = (l.at ≤ l.filled + 40 * l.i) × Writing (variable_lines 0 l.answers) (variable_lines l.i (drop l.i l.answers)) l.filled l.at l.initial.out l.out
