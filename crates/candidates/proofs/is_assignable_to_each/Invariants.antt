-- `is_assignable_to_each` meets its contract: the bounds from the place on that the loop has come to take the candidate.
use mathlib.Core.Path.{◌≡◌}
use mathlib.Core.Bool.{true}
use Rattle.ty.specs.Words.{type_of}
use Rattle.lattice.specs.Lattice.{assignable_to_all}
use Rattle.lattice.specs.World.{world_of}
use Rattle.candidates.specs.Steps.{types_from}
use Rattle.candidates.proofs.Back.{place}
use Rattle.candidates.proofs.is_assignable_to_each.Given as goal

abbrev pub invariant-loop-word : goal.invariant-loop-word
invariant-loop-word l = assignable_to_all (world_of l.pairs l.marks l.t) (type_of l.candidate.word) (types_from (place l.upper l.yielded) l.upper) ≡ true
