-- `fallback_join` meets its contract: the join is legal, and passes by its test where it is concrete.
use mathlib.Core.Path.{ap, ◌∙◌}
use mathlib.Core.List.{map}
use mathlib.Core.Option.{Option}
use native.Mathlib.Omega.{arith}
use Rattle.ty.specs.Types.{ArgType}
use Rattle.ty.specs.Words.{type_of}
use Rattle.ty.specs.Answers.{maybe_word}
use Rattle.lattice.specs.Lattice.{join_all}
use Rattle.lattice.specs.World.{world_of}
use Rattle.solving.specs.Solving.{only_concrete}
use Rattle.solving.specs.Resolve.{passing}
use Rattle.resolving.specs.Bounds.{fallback_passes, by_fallback}
use Rattle.resolving.specs.Laws.{word-types, word-legal, join-option, is-legal, pass-is, pass-none}
use Rattle.resolving.proofs.fallback_join.Goals as goal

pub only_concrete-requires : goal.only_concrete-requires
only_concrete-requires c =
    let a = c.args in
    let fits = c.requires.0.1 in
    word-legal a.t fits (join_all (world_of a.pairs.now a.marks.now a.t) (map type_of a.fallback.now)) (join-option a.pairs.now a.marks.now a.t fits a.fallback.now c.requires.3.0 (λ i. omega (arith, (c.type_inv.fallback i).fits))) c.join_all-joined.result c.join_all-joined.ensures

pub fallback_passes-requires : goal.fallback_passes-requires
fallback_passes-requires c =
    let a = c.args in
    let p = c.requires in
    let m = c.only_concrete in
    (p.0, is-legal m.result c.in-Some.ty c.in-Some.is m.ensures.0, p.1, p.2)

pub returns-in-Some : goal.returns-in-Some
unfolding by_fallback
returns-in-Some c =
    let a = c.args in
    let fits = c.requires.0.1 in
    let m = c.only_concrete in
    let j = c.join_all-joined in
    c.kept.ensures
    ∙ pass-is m.result c.in-Some.ty c.in-Some.is c.fallback_passes.result (fallback_passes (world_of a.pairs.now a.marks.now a.t) (map type_of a.upper.now) (map type_of a.domain.now)) m.ensures.0 c.fallback_passes.ensures
    ∙ ap (λ (o : Option ArgType). maybe_word (passing o (fallback_passes (world_of a.pairs.now a.marks.now a.t) (map type_of a.upper.now) (map type_of a.domain.now)))) (m.ensures.1 ∙ ap only_concrete (word-types a.t fits (join_all (world_of a.pairs.now a.marks.now a.t) (map type_of a.fallback.now)) (join-option a.pairs.now a.marks.now a.t fits a.fallback.now c.requires.3.0 (λ i. omega (arith, (c.type_inv.fallback i).fits))) j.result j.ensures))

pub returns-in-None : goal.returns-in-None
unfolding by_fallback
returns-in-None c =
    let a = c.args in
    let fits = c.requires.0.1 in
    let m = c.only_concrete in
    let j = c.join_all-joined in
    pass-none m.result c.in-None.is (fallback_passes (world_of a.pairs.now a.marks.now a.t) (map type_of a.upper.now) (map type_of a.domain.now))
    ∙ ap (λ (o : Option ArgType). maybe_word (passing o (fallback_passes (world_of a.pairs.now a.marks.now a.t) (map type_of a.upper.now) (map type_of a.domain.now)))) (m.ensures.1 ∙ ap only_concrete (word-types a.t fits (join_all (world_of a.pairs.now a.marks.now a.t) (map type_of a.fallback.now)) (join-option a.pairs.now a.marks.now a.t fits a.fallback.now c.requires.3.0 (λ i. omega (arith, (c.type_inv.fallback i).fits))) j.result j.ensures))
