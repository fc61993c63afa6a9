-- `members_load` meets its contract. The loop's invariant: the payload is what the digits passed have made, and what the
-- rest will add.
use mathlib.Core.Path.{◌≡◌}
use Prim.Native.Nat.{◌+◌, ◌-◌, ◌*◌, ◌^◌}
use Rattle.ty.specs.Round.{list_load}
use Rattle.keys.specs.Rank.{members_of}
use Rattle.keys.proofs.Rest.{rest_load}
use Rattle.keys.proofs.members_load.Given as goal

abbrev pub invariant-loop-i : goal.invariant-loop-i
invariant-loop-i l = list_load (members_of l.digits) ≡ l.i * 2 ^ 44 + l.sum + rest_load (11 - l.i) l.digits
