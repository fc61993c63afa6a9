-- `bases_assignable` meets its contract: to an Unknown, from one, and between known types.
use mathlib.Core.Path.{sym, ◌∙◌}
use Rattle.ty.specs.Words.{type_of}
use Rattle.lattice.specs.World.{world_of}
use Rattle.assignable.specs.Steps.{apart-to, apart-from}
use Rattle.assignable.proofs.bases_assignable.Goals as goal

pub known_assignable-requires : goal.known_assignable-requires
known_assignable-requires c =
    let p = c.requires in
    (p.0, p.2, sym c.is_known-then-is_known.ensures ∙ c.if-is_known-2.true, sym c.is_known.ensures ∙ c.if-is_known.true, p.3)

pub returns-then-is_known : goal.returns-then-is_known
returns-then-is_known c =
    let a = c.args in
    c.unknown_accepts.ensures
    ∙ apart-from (world_of a.pairs.now a.marks.now a.t) (type_of a.value.word) (type_of a.expected.word)
    (sym c.is_known-then-is_known.ensures ∙ c.if-is_known-2.false) (sym c.is_known.ensures ∙ c.if-is_known.true)

pub returns : goal.returns
returns c =
    let a = c.args in
    c.unknown_accepts-2.ensures
    ∙ apart-to (world_of a.pairs.now a.marks.now a.t) (type_of a.value.word) (type_of a.expected.word) (sym c.is_known.ensures ∙ c.if-is_known.false)
