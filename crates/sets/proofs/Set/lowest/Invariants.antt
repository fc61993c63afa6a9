-- `Set::lowest` meets its contract. At word k the words below k are 0.
use Rattle.std.proofs.Common.{◌≡◌, ◌+◌, ◌*◌, drop}
use Rattle.sets.proofs.Loops.{low_words}
use Rattle.sets.proofs.Set.lowest.Given as goal

abbrev pub invariant-loop-k : goal.invariant-loop-k
invariant-loop-k l = low_words l.w-items ≡ 64 * l.k + low_words (drop l.k l.w-items)
