-- `run` meets its contract: what is held is held after each read.
use Rattle.std.proofs.Common.{◌≡◌, ◌≤◌, length}
use Rattle.typeline.specs.Held.{Holds}
use Rattle.typeline.proofs.run.Given as goal

abbrev pub invariant-reads : goal.invariant-reads
invariant-reads g l = Holds l.last l.pairs l.marks l.rows l.answers l.out l.s.numbers l.s.filled × (length l.line ≡ 1025) × (l.s.used ≤ 1025)
