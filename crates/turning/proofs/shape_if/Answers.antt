-- `shape_if` meets its contract: asked for or not.
use borrow.Author.Rules.{rules}
use mathlib.Core.Path.{sym, ap, ◌∙◌}
use mathlib.Core.Bool.{Bool}
use Rattle.ty.specs.Answers.{maybe_word}
use Rattle.lattice.specs.World.{world_of}
use Rattle.lattice.specs.Lattice.{most_specific_upper}
use Rattle.solving.specs.Solving.{produced_type, or_else}
use Rattle.turning.specs.Turning.{state_in, only_if}
use Rattle.turning.proofs.shape_if.Goals as goal

pub shape_of-requires-then-asked : goal.shape_of-requires-then-asked
shape_of-requires-then-asked c =
    let p = c.requires in
    (p.0, p.1, search rules, p.3 c.if-asked.true)

pub returns-then-asked : goal.returns-then-asked
returns-then-asked c =
    let x = c.args in
    c.shape_of.ensures
    ∙ sym (ap (λ (a : Bool). only_if a (maybe_word (or_else (produced_type (world_of x.pairs.now x.marks.now x.t) (state_in x.keys.now x.root)) (most_specific_upper (world_of x.pairs.now x.marks.now x.t) (state_in x.keys.now x.root).upper)))) c.if-asked.true)

pub returns : goal.returns
returns c =
    let x = c.args in
    sym (ap (λ (a : Bool). only_if a (maybe_word (or_else (produced_type (world_of x.pairs.now x.marks.now x.t) (state_in x.keys.now x.root)) (most_specific_upper (world_of x.pairs.now x.marks.now x.t) (state_in x.keys.now x.root).upper)))) c.if-asked.false)
