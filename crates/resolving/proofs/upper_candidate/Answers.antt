-- `upper_candidate` meets its contract: the most specific upper bound is legal, and passes by its test.
use mathlib.Core.Path.{ap, ◌∙◌}
use mathlib.Core.List.{map}
use mathlib.Core.Option.{Option}
use native.Mathlib.Omega.{arith}
use Rattle.ty.specs.Types.{ArgType}
use Rattle.ty.specs.Words.{type_of}
use Rattle.ty.specs.Answers.{maybe_word}
use Rattle.lattice.specs.Lattice.{most_specific_upper}
use Rattle.lattice.specs.World.{world_of}
use Rattle.solving.specs.Resolve.{passing}
use Rattle.resolving.specs.Bounds.{upper_passes, by_upper}
use Rattle.resolving.specs.Laws.{legal-words, object-small, word-types, word-legal, specific-option, is-legal, pass-is, pass-none}
use Rattle.resolving.proofs.upper_candidate.Goals as goal

pub most_specific_upper-requires : goal.most_specific_upper-requires
most_specific_upper-requires c =
    let a = c.args in
    let p = c.requires in
    (p.0.0, object-small a.t p.0.1, legal-words a.t p.0.1 a.upper.now p.3)

pub upper_passes-requires : goal.upper_passes-requires
upper_passes-requires c =
    let a = c.args in
    let p = c.requires in
    let fits = p.0.1 in
    let m = c.most_specific_upper in
    (p.0, p.1, p.2, p.4, is-legal m.result c.in-Some.u c.in-Some.is (word-legal a.t fits (most_specific_upper (world_of a.pairs.now a.marks.now a.t) (map type_of a.upper.now)) (specific-option a.pairs.now a.marks.now a.t fits a.upper.now p.3 (λ i. omega (arith, (c.type_inv.upper i).fits))) m.result m.ensures))

pub returns-in-Some : goal.returns-in-Some
unfolding by_upper
returns-in-Some c =
    let a = c.args in
    let fits = c.requires.0.1 in
    let m = c.most_specific_upper in
    let l = (specific-option a.pairs.now a.marks.now a.t fits a.upper.now c.requires.3 (λ i. omega (arith, (c.type_inv.upper i).fits))) in
    c.kept.ensures
    ∙ pass-is m.result c.in-Some.u c.in-Some.is c.upper_passes.result (upper_passes (world_of a.pairs.now a.marks.now a.t) (map type_of a.exact.now) (map type_of a.lower.now) (map type_of a.domain.now)) (word-legal a.t fits (most_specific_upper (world_of a.pairs.now a.marks.now a.t) (map type_of a.upper.now)) l m.result m.ensures) c.upper_passes.ensures
    ∙ ap (λ (o : Option ArgType). maybe_word (passing o (upper_passes (world_of a.pairs.now a.marks.now a.t) (map type_of a.exact.now) (map type_of a.lower.now) (map type_of a.domain.now)))) (word-types a.t fits (most_specific_upper (world_of a.pairs.now a.marks.now a.t) (map type_of a.upper.now)) l m.result m.ensures)

pub returns-in-None : goal.returns-in-None
unfolding by_upper
returns-in-None c =
    let a = c.args in
    let fits = c.requires.0.1 in
    let m = c.most_specific_upper in
    pass-none m.result c.in-None.is (upper_passes (world_of a.pairs.now a.marks.now a.t) (map type_of a.exact.now) (map type_of a.lower.now) (map type_of a.domain.now))
    ∙ ap (λ (o : Option ArgType). maybe_word (passing o (upper_passes (world_of a.pairs.now a.marks.now a.t) (map type_of a.exact.now) (map type_of a.lower.now) (map type_of a.domain.now)))) (word-types a.t fits (most_specific_upper (world_of a.pairs.now a.marks.now a.t) (map type_of a.upper.now)) (specific-option a.pairs.now a.marks.now a.t fits a.upper.now c.requires.3 (λ i. omega (arith, (c.type_inv.upper i).fits))) m.result m.ensures)
