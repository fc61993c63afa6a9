-- `propagate` meets its contract: each turn is one of the definition, and less is left to do after it.
use mathlib.Core.Path.{◌≡◌}
use mathlib.Core.List.{map}
use Prim.Native.Nat.{◌+◌, ◌≤◌}
use lib.ListN.{length, take}
use Rattle.lattice.specs.World.{world_of}
use Rattle.solving.specs.Solving.{propagate, room}
use Rattle.solving.specs.TableKeys.{bound_of}
use Rattle.inserting.specs.Store.{store}
use Rattle.rules.specs.Rules.{links_in}
use Rattle.running.specs.Running.{Running}
use Rattle.running.specs.Laws.{ahead}
use Rattle.propagating.proofs.propagate.Given as goal

abbrev pub invariant-loop-state : goal.invariant-loop-state
invariant-loop-state l = (length l.a ≡ length l.initial.a) × (length l.ring ≡ 512) × (length l.words ≡ length l.initial.words) × (length l.fallbacks ≡ length l.initial.fallbacks) × (length l.uppers ≡ length l.initial.uppers)
    × Running (world_of l.pairs l.marks l.t) (links_in l.flows l.incoming l.reads l.writes) l.components (propagate (world_of l.pairs l.marks l.t) (links_in l.flows l.incoming l.reads l.writes) l.components (map bound_of (take l.count l.initial.a))) l.turns (store l.a l.ring l.state)
    × (l.turns + ahead l.state ≤ 512 + room)

abbrev pub decreases-loop-state : goal.decreases-loop-state
decreases-loop-state l = ahead l.state
