-- `order_to` is safe: a word that `decode` takes is legal.
use Rattle.std.proofs.Common.{sym, ◌∙◌}
use Rattle.ty.specs.Answers.{good-type}
use Rattle.replay_leaves.proofs.on_types.order_to.Goals as goal

pub order_of-requires : goal.order_of-requires
order_of-requires c = (c.requires, good-type 1024 _ _ (sym c.decode.ensures ∙ c.in-Ok.is))
