-- `answers_once` meets its contract: after i steps the first i answers stand at the front, and the places tell which components they are of.
use Rattle.std.proofs.Common.{◌≡◌, ◌≤◌, length}
use Rattle.std.proofs.Math.Seq.{paste}
use Rattle.lattice.specs.World.{world_of}
use Rattle.answering.specs.Answering.{table_in, answer_words}
use Rattle.answering.specs.Once.{Places}
use Rattle.answering.proofs.answers_once.Given as goal

abbrev pub invariant-loop-i : goal.invariant-loop-i
invariant-loop-i l = (l.i ≤ length l.variables) × (l.into ≡ paste l.initial.into 0 (answer_words (world_of l.pairs l.marks l.t) (table_in l.keys) l.variables) l.i) × Places l.variables l.places l.i
