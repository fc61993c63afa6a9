-- `keep` meets its contract.
use Rattle.joins.specs.Joins.{with_first}
use Rattle.joins.proofs.keep.Goals as goal

pub returns-then-is_kept : goal.returns-then-is_kept
unfolding with_first
returns-then-is_kept c = rw c.if-is_kept.true
