-- `from_upper` meets its contract: way 2, else those after it.
use mathlib.Core.Path.{◌∙◌}
use mathlib.Core.List.{map}
use Rattle.ty.specs.Words.{type_of}
use Rattle.lattice.specs.World.{world_of}
use Rattle.candidates.specs.Maybe.{maybe_type}
use Rattle.resolving.specs.Bounds.{by_upper, from_cast, from_upper}
use Rattle.resolving.specs.Laws.{way-is, way-none}
use Rattle.resolving.proofs.from_upper.Goals as goal

pub returns-in-Some : goal.returns-in-Some
unfolding from_upper
returns-in-Some c =
    let a = c.args in
    let m = c.upper_candidate in
    let w = world_of a.pairs.now a.marks.now a.t in
    way-is m.result c.in-Some.ty c.in-Some.is (by_upper w (map type_of a.exact.now) (map type_of a.lower.now) (map type_of a.upper.now) (map type_of a.domain.now)) (from_cast w (maybe_type a.evidence) (map type_of a.upper.now) (map type_of a.domain.now) (map type_of a.fallback.now)) m.ensures

pub returns-in-None : goal.returns-in-None
unfolding from_upper
returns-in-None c =
    let a = c.args in
    let m = c.upper_candidate in
    let w = world_of a.pairs.now a.marks.now a.t in
    c.from_cast.ensures ∙ way-none m.result c.in-None.is (by_upper w (map type_of a.exact.now) (map type_of a.lower.now) (map type_of a.upper.now) (map type_of a.domain.now)) (from_cast w (maybe_type a.evidence) (map type_of a.upper.now) (map type_of a.domain.now) (map type_of a.fallback.now)) m.ensures
