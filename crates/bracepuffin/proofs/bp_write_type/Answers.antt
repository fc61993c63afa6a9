-- `bp_write_type` meets its contract: the answer of the writer, and the output that it leaves.
use mathlib.Core.Path.{ap, ◌∙◌}
use Rattle.bracepuffin.specs.Boundary.{written_answer}
use Rattle.bracepuffin.proofs.bp_write_type.Goals as goal

pub returns : goal.returns
returns c = let w = c.write_type.ensures in record { result = c.written_answer.ensures ∙ ap written_answer w.result; memory = w.memory }
