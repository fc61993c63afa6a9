-- `add_to_lowest` meets its contract: a record of a plain table, in the front of the pairs.
use Rattle.layers.proofs.Steps.{lowest-ready, lowest-filled}
use Rattle.layers.proofs.add_to_lowest.Goals as goal

pub add_record-o-requires : goal.add_record-o-requires
add_record-o-requires c = lowest-ready c.args.pairs.now c.args.marks.now c.args.s c.requires.0 c.requires.1

pub returns : goal.returns
returns c =
    let a = c.args in
    lowest-filled a.pairs.now a.marks.now a.s c.requires.0 c.requires.1 a.flags a.class a.parents.now _ _ _ c.add_record-o.ensures
