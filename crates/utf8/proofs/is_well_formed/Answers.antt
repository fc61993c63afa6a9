-- `is_well_formed` meets its contract: the part is well-formed where its valid prefix ends at `to`.
use Rattle.utf8.proofs.Part.{whole-part}
use Rattle.utf8.proofs.is_well_formed.Goals as goal

pub returns : goal.returns
returns c =
    let a = c.args in
    whole-part a.s.now a.from a.to c.requires.0 c.requires.1 c.valid_up_to.ensures
