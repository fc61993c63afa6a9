-- `shape_of` meets its contract: what is produced, or else the upper bound.
use mathlib.Core.Path.{◌∙◌}
use Rattle.lattice.specs.World.{world_of}
use Rattle.lattice.specs.Lattice.{most_specific_upper}
use Rattle.solving.specs.Solving.{produced_type}
use Rattle.turning.specs.Turning.{state_in, shape-is, shape-none}
use Rattle.turning.proofs.shape_of.Goals as goal

pub returns-in-Some : goal.returns-in-Some
returns-in-Some c =
    let x = c.args in
    shape-is (produced_type (world_of x.pairs.now x.marks.now x.t) (state_in x.keys.now x.root)) (most_specific_upper (world_of x.pairs.now x.marks.now x.t) (state_in x.keys.now x.root).upper) x.produced c.requires.3 c.in-Some.field-0 c.in-Some.is

pub returns-in-None : goal.returns-in-None
returns-in-None c =
    let x = c.args in
    c.upper_of.ensures ∙ shape-none (produced_type (world_of x.pairs.now x.marks.now x.t) (state_in x.keys.now x.root)) (most_specific_upper (world_of x.pairs.now x.marks.now x.t) (state_in x.keys.now x.root).upper) x.produced c.requires.3 c.in-None.is
