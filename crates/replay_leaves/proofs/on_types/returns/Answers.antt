-- `returns` is safe: the rank of a legal word is in range.
use Rattle.std.proofs.Common.{arith}
use Rattle.keys.specs.Parts.{rank-fits}
use Rattle.replay_leaves.proofs.on_types.returns.Goals as goal

pub type_of_rank-back-requires : goal.type_of_rank-back-requires
type_of_rank-back-requires c = rank-fits c.args.t.word c.rank_of.result (omega arith) c.requires c.rank_of.ensures
