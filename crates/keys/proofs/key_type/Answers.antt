-- `key_type` meets its contract: the type of the rank in the key.
use Rattle.keys.specs.Rank.{key_type}
use Rattle.keys.proofs.key_type.Goals as goal

pub returns : goal.returns
unfolding key_type
returns c = c.type_of_rank.ensures
