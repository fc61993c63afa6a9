-- `join` meets its contract: at word k the words below k are joined.
use mathlib.Core.Path.{◌≡◌}
use Prim.Native.Nat.{◌*◌, ◌<◌}
use lib.ListN.{length}
use Rattle.ancestry.specs.Rows.{rows_room, Joining}
use Rattle.ancestry.proofs.join.Given as goal

abbrev pub invariant-loop-k : goal.invariant-loop-k
invariant-loop-k l = (l.first ≡ 16 * l.c) × (l.c < 1024) × (length l.initial.rows ≡ rows_room) × (length l.s.words ≡ 16) × (length l.rows ≡ rows_room) × Joining l.initial.rows l.c l.s.words l.rows l.k
