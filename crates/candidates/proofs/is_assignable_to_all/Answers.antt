-- `is_assignable_to_all` meets its contract: at once or one by one.
use mathlib.Core.Path.{sym, ◌∙◌}
use mathlib.Core.List.{map}
use Rattle.ty.specs.Words.{type_of}
use Rattle.candidates.proofs.is_assignable_to_all.Goals as goal

pub group_of-g-requires : goal.group_of-g-requires
group_of-g-requires c =
    let p = c.requires in
    (p.0, p.1, sym c.tag.ensures ∙ c.if-tag-eq1.true, p.2)

pub takes-requires : goal.takes-requires
takes-requires c =
    let p = c.requires in
    (p.0, (p.1, sym c.tag.ensures ∙ c.if-tag-eq1.true, sym c.group_of-g.ensures.0))

pub returns-then-tag-eq1 : goal.returns-then-tag-eq1
returns-then-tag-eq1 c =
    let a = c.args in
    c.takes.ensures (map type_of a.upper.now) c.group_of-g.ensures.1
