-- `order_of_words` is safe: a word that `decode` takes is legal.
use Rattle.std.proofs.Common.{sym, ◌∙◌}
use Rattle.ty.specs.Answers.{good-type}
use Rattle.replay_leaves.proofs.on_types.order_of_words.Goals as goal

pub order_to-requires : goal.order_to-requires
order_to-requires c = good-type 1024 _ _ (sym c.decode.ensures ∙ c.in-Ok.is)
