-- `producer_bound_compatible` meets its contract.
use mathlib.Core.Path.{sym, ◌∙◌}
use Rattle.ty.specs.Words.{type_of}
use Rattle.lattice.specs.World.{world_of}
use Rattle.candidates.specs.Steps.{compatible-references, compatible-other}
use Rattle.candidates.proofs.producer_bound_compatible.Goals as goal

pub returns-then-are_references : goal.returns-then-are_references
returns-then-are_references c =
    let a = c.args in
    compatible-references (world_of a.pairs.now a.marks.now a.t) (type_of a.produced.word) (type_of a.expected.word) (sym c.are_references.ensures ∙ c.if-are_references.true)

pub returns : goal.returns
returns c =
    let a = c.args in
    c.is_assignable.ensures
    ∙ compatible-other (world_of a.pairs.now a.marks.now a.t) (type_of a.produced.word) (type_of a.expected.word) (sym c.are_references.ensures ∙ c.if-are_references.false)
