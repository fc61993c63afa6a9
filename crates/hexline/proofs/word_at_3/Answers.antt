-- `word_at_3` meets its contract.
use Rattle.std.proofs.Common.{◌∙◌, arith}
use Rattle.hexline.specs.Laws.{word-of-bytes}
use Rattle.hexline.proofs.word_at_3.Goals as goal

pub returns : goal.returns
returns c = (c.from_be_bytes.ensures ∙ word-of-bytes c.args.body.now c.requires, omega arith)
