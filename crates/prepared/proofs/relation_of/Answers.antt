-- `relation_of` meets its contract.
use mathlib.Core.Path.{sym, ◌∙◌}
use Rattle.prepared.proofs.relation_of.Goals as goal

pub relation_by_row-requires : goal.relation_by_row-requires
relation_by_row-requires c = (c.requires, sym c.has_row.ensures ∙ c.if-has_row.true)

pub subtype_relation-requires : goal.subtype_relation-requires
subtype_relation-requires c = c.requires.long
