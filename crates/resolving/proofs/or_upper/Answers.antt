-- `or_upper` meets its contract: what is produced is legal, and so is the most specific upper bound.
use mathlib.Core.Path.{◌∙◌}
use mathlib.Core.List.{map}
use native.Mathlib.Omega.{arith}
use Rattle.ty.specs.Words.{type_of}
use Rattle.lattice.specs.Lattice.{most_specific_upper}
use Rattle.lattice.specs.World.{world_of}
use Rattle.resolving.specs.Laws.{legal-words, object-small, word-types, word-legal, specific-option, is-legal, or-is, or-none}
use Rattle.resolving.proofs.or_upper.Goals as goal

pub most_specific_upper-requires : goal.most_specific_upper-requires
most_specific_upper-requires c =
    let a = c.args in
    let p = c.requires in
    (p.0.0, object-small a.t p.0.1, legal-words a.t p.0.1 a.upper.now p.2)

pub returns-in-Some : goal.returns-in-Some
returns-in-Some c =
    let a = c.args in
    let u = c.in-Some.u in
    let e = c.in-Some.is in
    (is-legal a.produced u e c.requires.1, or-is a.produced u e (most_specific_upper (world_of a.pairs.now a.marks.now a.t) (map type_of a.upper.now)))

pub returns-in-None : goal.returns-in-None
returns-in-None c =
    let a = c.args in
    let fits = c.requires.0.1 in
    let o = most_specific_upper (world_of a.pairs.now a.marks.now a.t) (map type_of a.upper.now) in
    let l = (specific-option a.pairs.now a.marks.now a.t fits a.upper.now c.requires.2 (λ i. omega (arith, (c.type_inv.upper i).fits))) in
    let r = c.most_specific_upper.result in
    let e = c.most_specific_upper.ensures in
    (word-legal a.t fits o l r e, word-types a.t fits o l r e ∙ or-none a.produced c.in-None.is o)
