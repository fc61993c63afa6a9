-- CLOSED: what a run ends in, unrefused, is a table to which no rule adds a bound, from the state of any component.
use mathlib.Core.List.Memᴰ
use mathlib.Core.List.{List, Memᴰ}
use Prim.Native.Nat.{ℕ, ◌<◌}
use Rattle.lattice.specs.Lattice.{World}
use Rattle.solving.specs.Solving.{Table, state_of, Links, Addition, additions}

-- all that the rules give from a component's state is there
abbrev pub Settled : World → Links → Table → ℕ → Type 0
Settled w l t c = (a : Addition) → Memᴰ a (additions w l c (state_of t c)) → Memᴰ a.adds t

-- of every component
abbrev pub Closed : World → Links → ℕ → Table → Type 0
Closed w l components t = (c : ℕ) → c < components → Settled w l t c
