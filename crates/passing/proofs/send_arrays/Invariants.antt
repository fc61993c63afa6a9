-- `send_arrays` meets its contract: what is left are the links from the index on.
use Rattle.std.proofs.Common.{◌≡◌, ◌≤◌, length, map, drop}
use Rattle.solving.specs.LinkKeys.{pair_of}
use Rattle.solving.specs.Solving.{array_rules}
use Rattle.inserting.specs.Store.{store, put_all, sent_types, Ready}
use Rattle.passing.proofs.send_arrays.Given as goal

abbrev pub invariant-loop-link : goal.invariant-loop-link
invariant-loop-link l = (l.link-index ≤ length l.links) × Ready (store l.a l.ring l.state)
    × (put_all (array_rules 0 l.kind (sent_types l.element) 0 (sent_types l.array) l.root (map pair_of l.links)) (store l.initial.a l.initial.ring l.initial.state) ≡ put_all (array_rules 0 l.kind (sent_types l.element) 0 (sent_types l.array) l.root (drop l.link-index (map pair_of l.links))) (store l.a l.ring l.state))
