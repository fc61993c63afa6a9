-- `check_variables` meets its contract: what is left are the variables from i on, those before them taken.
use mathlib.Core.Path.{◌≡◌}
use mathlib.Core.List.{[]}
use Prim.Native.Nat.{◌-◌, ◌≤◌}
use lib.ListN.{length, take, drop}
use Rattle.problemcolumns.specs.Runs.{variable_run}
use Rattle.problemcolumns.proofs.check_variables.Given as goal

abbrev pub invariant-loop-i : goal.invariant-loop-i
invariant-loop-i l = (l.i ≤ length l.var_comp) × (variable_run l.components l.var_comp [] ≡ variable_run l.components (drop l.i l.var_comp) (take l.i l.var_comp))

abbrev pub decreases-loop-i : goal.decreases-loop-i
decreases-loop-i l = length l.var_comp - l.i
