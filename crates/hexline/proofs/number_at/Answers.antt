-- `number_at` meets its contract.
use Rattle.std.proofs.Common.{◌∙◌, arith}
use Rattle.hexline.specs.Hex.{number_at}
use Rattle.hexline.proofs.number_at.Goals as goal

pub returns : goal.returns
unfolding number_at
returns c = (c.from.ensures ∙ c.from_be_bytes.ensures, omega arith)
