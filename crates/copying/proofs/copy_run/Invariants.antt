-- `copy_run` meets its contract: after the index's steps that many entries stand in their places.
use Rattle.std.specs.Prelude.{◌≡◌, ◌+◌, ◌≤◌, length, map}
use Rattle.std.proofs.Math.Seq.{paste}
use Rattle.copying.proofs.copy_run.Given as goal

abbrev pub invariant-loop-key : goal.invariant-loop-key
invariant-loop-key g l = (l.key-index ≤ length l.key-items) × (l.end ≡ l.at + l.key-index) × (l.out ≡ paste l.initial.out l.at (map g.of l.key-items) l.key-index)
