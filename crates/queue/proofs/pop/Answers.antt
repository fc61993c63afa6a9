-- `pop` meets its contract: the front leaves ring and set.
use Prim.Native.Nat.{◌+◌, ◌-◌, ◌%◌}
use lib.ListN.{get_or}
use Rattle.queue.proofs.pop.Goals as goal

pub returns : goal.returns
returns c =
    let a = c.args in
    let w = c.without-queued.ensures in
    λ k. record { front = get_or a.ring.now a.q.head 0; rest = record { head = (a.q.head + 1) % 512; len = a.q.len - 1; queued = record { words = w k } } }
