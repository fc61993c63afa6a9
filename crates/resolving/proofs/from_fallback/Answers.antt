-- `from_fallback` meets its contract: way 4, else way 5.
use mathlib.Core.Path.{◌∙◌}
use mathlib.Core.List.{map}
use Rattle.ty.specs.Words.{type_of}
use Rattle.lattice.specs.World.{world_of}
use Rattle.resolving.specs.Bounds.{by_fallback, by_hint, from_fallback}
use Rattle.resolving.specs.Laws.{way-is, way-none}
use Rattle.resolving.proofs.from_fallback.Goals as goal

pub returns-in-Some : goal.returns-in-Some
unfolding from_fallback
returns-in-Some c =
    let a = c.args in
    let m = c.fallback_join in
    let w = world_of a.pairs.now a.marks.now a.t in
    way-is m.result c.in-Some.ty c.in-Some.is (by_fallback w (map type_of a.upper.now) (map type_of a.domain.now) (map type_of a.fallback.now)) (by_hint w (map type_of a.upper.now) (map type_of a.domain.now)) m.ensures

pub returns-in-None : goal.returns-in-None
unfolding from_fallback
returns-in-None c =
    let a = c.args in
    let m = c.fallback_join in
    let w = world_of a.pairs.now a.marks.now a.t in
    c.domain_hint.ensures ∙ way-none m.result c.in-None.is (by_fallback w (map type_of a.upper.now) (map type_of a.domain.now) (map type_of a.fallback.now)) (by_hint w (map type_of a.upper.now) (map type_of a.domain.now)) m.ensures
