-- `put` of ranks meets its contract: what is left are the ranks from the index on.
use Rattle.std.proofs.Common.{◌≡◌, ◌≤◌, length, map, drop}
use Rattle.keys.specs.Rank.{unrank}
use Rattle.solving.specs.Solving.{to_one}
use Rattle.inserting.specs.Store.{store, put_all, Ready}
use Rattle.passing.proofs.RefSliceU64Load.put.Given as goal

abbrev pub invariant-loop-rank : goal.invariant-loop-rank
invariant-loop-rank l = (l.rank-index ≤ length l.self) × Ready (store l.a l.ring l.state)
    × (put_all (to_one 0 l.kind (map unrank l.self) l.component) (store l.initial.a l.initial.ring l.initial.state) ≡ put_all (to_one 0 l.kind (drop l.rank-index (map unrank l.self)) l.component) (store l.a l.ring l.state))
