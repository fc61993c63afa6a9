-- `send_each` meets its contract: what is left are the links from the index on.
use Rattle.std.proofs.Common.{◌≡◌, ◌≤◌, length, drop}
use Rattle.solving.specs.Solving.{to_each}
use Rattle.inserting.specs.Store.{store, put_all, Ready}
use Rattle.passing.specs.Passes.{seconds}
use Rattle.passing.proofs.send_each.Given as goal

abbrev pub invariant-loop-link : goal.invariant-loop-link
invariant-loop-link g l = (l.link-index ≤ length l.links) × Ready (store l.a l.ring l.state)
    × (put_all (to_each 0 l.kind (g.L.Load.types l.load) (seconds l.links)) (store l.initial.a l.initial.ring l.initial.state) ≡ put_all (to_each 0 l.kind (g.L.Load.types l.load) (drop l.link-index (seconds l.links))) (store l.a l.ring l.state))
