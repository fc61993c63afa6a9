-- `Set::same` meets its contract: the equality of two arrays.
use Rattle.std.proofs.Common.{◌∙◌}
use Rattle.sets.proofs.Loops.{pointwise-same}
use Rattle.sets.proofs.Set.same.Goals as goal

pub returns : goal.returns
returns c = c.eq.ensures ∙ pointwise-same c.args.self.words c.args.other.words
