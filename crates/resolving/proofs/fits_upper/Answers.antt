-- `fits_upper` meets its contract: a candidate passes where it is assignable to every upper bound.
use mathlib.Core.Path.{◌∙◌}
use mathlib.Core.List.{map}
use Rattle.ty.specs.Words.{type_of}
use Rattle.lattice.specs.Lattice.{assignable_to_all}
use Rattle.lattice.specs.World.{world_of}
use Rattle.resolving.specs.Bounds.{fitting}
use Rattle.resolving.specs.Laws.{legal-words, is-legal, pass-is, pass-none}
use Rattle.resolving.proofs.fits_upper.Goals as goal

pub is_assignable_to_all-requires : goal.is_assignable_to_all-requires
is_assignable_to_all-requires c =
    let a = c.args in
    let p = c.requires in
    let u = c.in-Some.ty in
    let e = c.in-Some.is in
    (p.0.0, is-legal a.candidate u e p.1, legal-words a.t p.0.1 a.upper.now p.2)

pub returns-in-Some : goal.returns-in-Some
unfolding fitting
returns-in-Some c =
    let a = c.args in
    let u = c.in-Some.ty in
    let e = c.in-Some.is in
    c.kept.ensures ∙ pass-is a.candidate u e c.is_assignable_to_all.result (λ ty. assignable_to_all (world_of a.pairs.now a.marks.now a.t) ty (map type_of a.upper.now)) c.requires.1 c.is_assignable_to_all.ensures

pub returns-in-None : goal.returns-in-None
unfolding fitting
returns-in-None c =
    let a = c.args in
    pass-none a.candidate c.in-None.is (λ ty. assignable_to_all (world_of a.pairs.now a.marks.now a.t) ty (map type_of a.upper.now))
