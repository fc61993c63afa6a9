-- `place` meets its contract: list after list, none of which is outside the slice.
use Rattle.std.proofs.Common.{◌≡◌, length}
use Rattle.replaying.specs.Replaying.{Inside, place_of}
use Rattle.replaying.proofs.parts.place.Given as goal

abbrev pub invariant-loop-i : goal.invariant-loop-i
invariant-loop-i l = (l.s ≡ place_of l.a l.from l.i) × Inside l.s (length l.a)
