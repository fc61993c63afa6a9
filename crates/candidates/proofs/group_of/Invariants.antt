-- `group_of` meets its contract: the group is that of the bounds from the place on that the loop has come to, and one that refuses refuses for all.
use mathlib.Core.Path.{◌≡◌}
use mathlib.Core.Bool.{true}
use Rattle.lattice.specs.World.{world_of}
use Rattle.candidates.specs.Steps.{types_from}
use Rattle.candidates.specs.Groups.{head_of, Grouped}
use Rattle.candidates.proofs.Back.{place}
use Rattle.candidates.proofs.group_of.Given as goal

abbrev pub invariant-loop-word : goal.invariant-loop-word
invariant-loop-word l = (l.g.head ≡ head_of l.candidate.word) × (l.g.rest ≡ true) × Grouped (world_of l.pairs l.marks l.t) (types_from (place l.upper l.yielded) l.upper) l.g.head true l.g.classes.words
