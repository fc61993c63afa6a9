-- The bytes left fall with each '['.
use Rattle.std.proofs.Common.{◌-◌, length}
use Rattle.descriptor.proofs.+read_core.Given as goal

abbrev pub decreases-read_core : goal.decreases-read_core
decreases-read_core l = length l.s.now - l.at
