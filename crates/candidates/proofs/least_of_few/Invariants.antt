-- `least_of_few` meets its contract: the best so far is the least hint of the bounds from the place on that the loop has come to.
use mathlib.Core.Path.{◌≡◌}
use mathlib.Core.List.{map}
use Rattle.ty.specs.Words.{type_of}
use Rattle.lattice.specs.Lattice.{least_hint}
use Rattle.lattice.specs.World.{world_of}
use Rattle.candidates.specs.Maybe.{LegalMaybe, maybe_type}
use Rattle.candidates.specs.Steps.{types_from}
use Rattle.candidates.proofs.Back.{place}
use Rattle.candidates.proofs.least_of_few.Given as goal

abbrev pub invariant-loop-word : goal.invariant-loop-word
invariant-loop-word l = LegalMaybe l.best × (maybe_type l.best ≡ least_hint (world_of l.pairs l.marks l.t) (map type_of l.upper) (types_from (place l.upper l.yielded) l.upper))
