-- Laws place by place: what a loop over an index goes by.
use Rattle.std.specs.Prelude.{◌≡◌, cond, ℕ, ◌≤◌, ◌<◌}
use Rattle.std.proofs.Math.Path.{ap}
use Rattle.std.proofs.Common.{arith}
use mathlib.Core.List.{List}
use Rattle.sets.specs.Sets.{at, member, remove, members, first}
use Rattle.sets.specs.Bits.{first-le}
use Rattle.view.specs.Frontier.{members-pop, members-none}
use Rattle.ancestry.specs.Rows.{row}
use Rattle.supertype.specs.Stripped.{strip_by, strip_rows}

module _ (rows : List ℕ) (d : ℕ) where
  pub rows-step : (s f : List ℕ) (c : ℕ) → c ≡ first (at f) 1024 → c < 1024
      → strip_rows rows d s (members (at f) 0 1024) ≡ strip_rows rows d (cond (member (row rows c) d) (remove s c) s) (members (at (remove f c)) 0 1024)
  unfolding strip_by
  rows-step s f c e h = ap (strip_rows rows d s) (members-pop f c e h)

  pub rows-end : (s f : List ℕ) (c : ℕ) → c ≡ first (at f) 1024 → 1024 ≤ c → strip_rows rows d s (members (at f) 0 1024) ≡ s
  unfolding strip_by
  rows-end s f c e h = ap (strip_rows rows d s) (members-none f (let l = first-le (at f) 1024 in omega arith))
