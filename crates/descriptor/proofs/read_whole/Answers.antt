-- The type at offset 0, which has to be all.
use Rattle.descriptor.specs.Read.{read_whole}
use Rattle.descriptor.proofs.read_whole.Goals as goal

pub returns : goal.returns
unfolding read_whole
returns c = c.read_last.ensures
