-- The bytes left fall with each parameter.
use Rattle.std.proofs.Common.{◌-◌, length}
use Rattle.methods.proofs.+read_params.Given as goal

abbrev pub decreases-read_params : goal.decreases-read_params
decreases-read_params l = length l.s.now - l.at
