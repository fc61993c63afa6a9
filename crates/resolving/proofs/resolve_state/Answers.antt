-- `resolve_state` meets its contract: what is produced is legal; way 1, else those after it, is the definition.
use mathlib.Core.Path.{ap, ◌∙◌}
use mathlib.Core.List.{[], map}
use native.Mathlib.Omega.{arith}
use Rattle.ty.specs.Words.{type_of}
use Rattle.ty.specs.Answers.{maybe_word}
use Rattle.lattice.specs.World.{world_of}
use Rattle.candidates.specs.Maybe.{maybe_type}
use Rattle.solving.specs.Solving.{produced_type, only_concrete}
use Rattle.resolving.specs.Bounds.{state_in, fitting, from_upper}
use Rattle.resolving.specs.Laws.{word-types, word-legal, produced-alone, produced-option, way-is, way-none, ways-all}
use Rattle.resolving.proofs.resolve_state.Goals as goal

pub only_concrete-evidence-requires : goal.only_concrete-evidence-requires
only_concrete-evidence-requires c =
    let a = c.args in
    let fits = c.requires.0.1 in
    word-legal a.t fits (produced_type (world_of a.pairs.now a.marks.now a.t) (state_in a.exact.now a.lower.now [] [] [])) (produced-option a.pairs.now a.marks.now a.t fits a.exact.now a.lower.now c.requires.1.0 (λ i. omega (arith, (c.type_inv.exact i).fits)) c.requires.2.0 (λ i. omega (arith, (c.type_inv.lower i).fits))) c.produced_type-produced.result c.produced_type-produced.ensures

pub returns-in-Some : goal.returns-in-Some
returns-in-Some c =
    let a = c.args in
    let w = world_of a.pairs.now a.marks.now a.t in
    let fits = c.requires.0.1 in
    let m = c.fits_upper in
    let v = c.only_concrete-evidence in
    let q = c.produced_type-produced in
    let o = maybe_type v.result in
    let all = ways-all w a.exact.now a.lower.now a.upper.now a.domain.now a.fallback.now o
    (v.ensures.1 ∙ ap only_concrete (word-types a.t fits (produced_type (world_of a.pairs.now a.marks.now a.t) (state_in a.exact.now a.lower.now [] [] [])) (produced-option a.pairs.now a.marks.now a.t fits a.exact.now a.lower.now c.requires.1.0 (λ i. omega (arith, (c.type_inv.exact i).fits)) c.requires.2.0 (λ i. omega (arith, (c.type_inv.lower i).fits))) q.result q.ensures ∙ produced-alone w a.exact.now a.lower.now a.upper.now a.domain.now a.fallback.now)) in
    way-is m.result c.in-Some.ty c.in-Some.is (fitting w o (map type_of a.upper.now)) (from_upper w o (state_in a.exact.now a.lower.now a.upper.now a.domain.now a.fallback.now)) m.ensures ∙ ap maybe_word all

pub returns-in-None : goal.returns-in-None
returns-in-None c =
    let a = c.args in
    let w = world_of a.pairs.now a.marks.now a.t in
    let fits = c.requires.0.1 in
    let m = c.fits_upper in
    let v = c.only_concrete-evidence in
    let q = c.produced_type-produced in
    let o = maybe_type v.result in
    let all = ways-all w a.exact.now a.lower.now a.upper.now a.domain.now a.fallback.now o
    (v.ensures.1 ∙ ap only_concrete (word-types a.t fits (produced_type (world_of a.pairs.now a.marks.now a.t) (state_in a.exact.now a.lower.now [] [] [])) (produced-option a.pairs.now a.marks.now a.t fits a.exact.now a.lower.now c.requires.1.0 (λ i. omega (arith, (c.type_inv.exact i).fits)) c.requires.2.0 (λ i. omega (arith, (c.type_inv.lower i).fits))) q.result q.ensures ∙ produced-alone w a.exact.now a.lower.now a.upper.now a.domain.now a.fallback.now)) in
    c.from_upper.ensures ∙ way-none m.result c.in-None.is (fitting w o (map type_of a.upper.now)) (from_upper w o (state_in a.exact.now a.lower.now a.upper.now a.domain.now a.fallback.now)) m.ensures ∙ ap maybe_word all
