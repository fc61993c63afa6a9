-- `build_rows` meets its contract: with layers, or without.
use mathlib.Core.Path.{refl}
use Rattle.layercolumns.specs.Laws.{none-found, room-none, room-layers}
use Rattle.tablecheck.proofs.build_rows.Goals as goal

pub build_in-requires : goal.build_in-requires
build_in-requires c = (c.requires, room-layers _ _ refl)

pub build_in-requires-2 : goal.build_in-requires-2
build_in-requires-2 c =
    let flags = c.args.columns.now.rec_flags.now in
    let found = c.first_open in
    (c.requires, room-none _ _ (none-found flags flags found.result found.ensures c.if-first_open-columns.false) refl)
