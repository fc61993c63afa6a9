-- `spread` meets its contract: only the front is left to expand, and with each turn more is expanded.
use mathlib.Core.Path.{◌≡◌}
use Prim.Native.Nat.{◌-◌}
use lib.ListN.{length}
use Rattle.sets.specs.Sets.{at, subtract, members, first}
use Rattle.tables.specs.Table.{view_of}
use Rattle.ancestry.specs.Spread.{Spreading}
use Rattle.ancestry.proofs.spread.Given as goal

abbrev pub invariant-loop-c : goal.invariant-loop-c
invariant-loop-c l = (l.c ≡ first (at l.front.words) 1024) × Spreading (view_of l.pairs l.marks l.t) l.initial.seen.words l.seen.words l.front.words

abbrev pub decreases-loop-c : goal.decreases-loop-c
decreases-loop-c l = 1024 - length (members (at (subtract l.seen.words l.front.words)) 0 1024)
