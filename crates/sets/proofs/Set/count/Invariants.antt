-- `Set::count` meets its contract. At word k, n is the count of the words below k.
use Rattle.std.proofs.Common.{◌≡◌, ◌+◌, ◌*◌, ◌≤◌, drop}
use Rattle.sets.proofs.Loops.{sum_ones}
use Rattle.sets.proofs.Set.count.Given as goal

abbrev pub invariant-loop-w : goal.invariant-loop-w
invariant-loop-w l = (l.n ≤ 64 * l.w-index) × (sum_ones l.w-items ≡ l.n + sum_ones (drop l.w-index l.w-items))
