-- `contains` meets its contract. The invariant: the digits passed do not have d.
use Rattle.std.proofs.Common.{◌≡◌, ◌≤◌}
use Rattle.order.specs.Lists.{elem}
use Rattle.ty.specs.Steps.{rest_of}
use Rattle.ty.proofs.contains.Given as goal

abbrev pub invariant-loop-i : goal.invariant-loop-i
invariant-loop-i l = (l.from ≤ l.i) × (elem l.d (rest_of l.load l.n l.from) ≡ elem l.d (rest_of l.load l.n l.i))
