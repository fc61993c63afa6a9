-- `word` is safe: a word that `decode` takes is legal.
use Rattle.std.proofs.Common.{sym, ◌∙◌}
use Rattle.ty.specs.Answers.{good-type}
use Rattle.replay_leaves.proofs.on_types.word.Goals as goal

pub said_of-requires : goal.said_of-requires
said_of-requires c = good-type 1024 _ _ (sym c.decode.ensures ∙ c.in-Ok.is)
