-- Each turn of the two takes a dimension off.
use Rattle.std.proofs.Common.{◌+◌, ◌*◌}
use Rattle.ty.specs.Words.{dims_of}
use Rattle.joins.proofs.+join_join_arrays.Given as goal

abbrev pub decreases-join : goal.decreases-join
decreases-join l = 2 * dims_of l.left.word + 1

abbrev pub decreases-join_arrays : goal.decreases-join_arrays
decreases-join_arrays l = 2 * dims_of l.left.word
