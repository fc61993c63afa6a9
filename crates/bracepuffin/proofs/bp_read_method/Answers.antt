-- `bp_read_method` meets its contract: the answer of what is read, and the parameter slice that the reader leaves.
use mathlib.Core.Path.{ap, ◌∙◌}
use Rattle.bracepuffin.specs.Boundary.{bp_method}
use Rattle.bracepuffin.proofs.bp_read_method.Goals as goal

pub returns : goal.returns
returns c = let r = c.read_method in (c.method_answer.ensures ∙ ap bp_method r.ensures.0, r.ensures.1)
