-- `feed` meets its contract: a part ends inside the chunk, and what is held is held after each piece.
use Rattle.std.proofs.Common.{◌≡◌, ◌+◌, ◌-◌, ◌^◌, ◌<◌, ◌≤◌, length}
use Rattle.typeline.specs.Held.{Holds}
use Rattle.typeline.proofs.feed.Given as goal

abbrev pub invariant-loop-i : goal.invariant-loop-i
invariant-loop-i g l = record {
  within : l.i ≤ length l.chunk + 1;
  short : length l.chunk < 2 ^ 63;
  holds : Holds l.last l.pairs l.marks l.rows l.answers l.out l.t.numbers l.t.filled;
  line : length l.line ≡ 1025;
  used : l.t.used ≤ 1025;
}

abbrev pub decreases-loop-i : goal.decreases-loop-i
decreases-loop-i g l = length l.chunk + 1 - l.i
