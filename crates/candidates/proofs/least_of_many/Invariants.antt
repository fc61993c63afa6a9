-- `least_of_many` meets its contract: the best so far is the least hint of the bounds from the place on that the loop has come to.
use mathlib.Core.List.{map}
use Rattle.ty.specs.Words.{type_of}
use Rattle.lattice.specs.Lattice.{least_hint}
use Rattle.lattice.specs.World.{world_of}
use Rattle.candidates.specs.Steps.{types_from}
use Rattle.candidates.specs.Groups.{BestOf}
use Rattle.candidates.proofs.Back.{place}
use Rattle.candidates.proofs.least_of_many.Given as goal

abbrev pub invariant-loop-word : goal.invariant-loop-word
invariant-loop-word l = BestOf (world_of l.pairs l.marks l.t) (map type_of l.upper) l.b.best l.b.group.head l.b.group.rest l.b.group.classes.words
    (least_hint (world_of l.pairs l.marks l.t) (map type_of l.upper) (types_from (place l.upper l.yielded) l.upper))
