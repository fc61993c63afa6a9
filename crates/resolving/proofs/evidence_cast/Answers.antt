-- `evidence_cast` meets its contract: what is produced passes by its test.
use mathlib.Core.Path.{◌∙◌}
use mathlib.Core.List.{map}
use Rattle.ty.specs.Words.{type_of}
use Rattle.lattice.specs.World.{world_of}
use Rattle.resolving.specs.Bounds.{cast_passes, by_cast}
use Rattle.resolving.specs.Laws.{is-legal, pass-is, pass-none}
use Rattle.resolving.proofs.evidence_cast.Goals as goal

pub cast_passes-requires : goal.cast_passes-requires
cast_passes-requires c =
    let a = c.args in
    let p = c.requires in
    let u = c.in-Some.ty in
    let e = c.in-Some.is in
    (p.0, is-legal a.evidence u e p.1, p.2, p.3)

pub returns-in-Some : goal.returns-in-Some
unfolding by_cast
returns-in-Some c =
    let a = c.args in
    let u = c.in-Some.ty in
    let e = c.in-Some.is in
    c.kept.ensures ∙ pass-is a.evidence u e c.cast_passes.result (cast_passes (world_of a.pairs.now a.marks.now a.t) (map type_of a.upper.now) (map type_of a.domain.now)) c.requires.1 c.cast_passes.ensures

pub returns-in-None : goal.returns-in-None
unfolding by_cast
returns-in-None c =
    let a = c.args in
    pass-none a.evidence c.in-None.is (cast_passes (world_of a.pairs.now a.marks.now a.t) (map type_of a.upper.now) (map type_of a.domain.now))
