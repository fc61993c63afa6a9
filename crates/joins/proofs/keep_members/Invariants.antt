-- `keep_members` meets its contract. Invariant: what was found is what is kept of the members from i on.
use mathlib.Core.Path.{◌≡◌}
use Prim.Native.Nat.{◌/◌, ◌^◌, ◌≤◌}
use Rattle.joins.specs.Lists.{kept_from}
use Rattle.joins.proofs.keep_members.Given as goal

abbrev pub invariant-loop-i : goal.invariant-loop-i
invariant-loop-i l = (l.i ≤ l.load / 2 ^ 44) × (l.found ≡ kept_from l.load l.set l.i)
