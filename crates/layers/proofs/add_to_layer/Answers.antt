-- `add_to_layer` meets its contract: a record of the topmost layer.
use Rattle.layers.proofs.Steps.{holds-roomy, layer-filled}
use Rattle.layers.proofs.add_to_layer.Goals as goal

pub add_layer_record-o-requires : goal.add_layer_record-o-requires
add_layer_record-o-requires c = holds-roomy c.args.pairs.now c.args.marks.now c.args.s c.requires.0 c.requires.1

pub returns : goal.returns
returns c =
    let a = c.args in
    layer-filled a.pairs.now a.marks.now a.s c.requires.0 c.requires.1 a.flags a.class a.parents.now _ _ _ c.add_layer_record-o.ensures
