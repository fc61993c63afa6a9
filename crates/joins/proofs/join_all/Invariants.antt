-- `join_all` meets its contract. Invariant: the join so far, with the words left, is the whole.
use mathlib.Core.Path.{◌≡◌}
use mathlib.Core.Bool.{true}
use mathlib.Core.List.{map}
use mathlib.Core.Option.{some}
use Prim.Native.Nat.{◌+◌, ◌<◌, ◌^◌}
use Rattle.ty.specs.Words.{type_of, legal_word}
use Rattle.ty.specs.Answers.{word}
use Rattle.lattice.specs.Lattice.{join_all}
use Rattle.lattice.specs.World.{world_of}
use Rattle.joins.specs.Fold.{join_rest}
use Rattle.joins.proofs.join_all.Given as goal

abbrev pub invariant-loop-word : goal.invariant-loop-word
invariant-loop-word l = (legal_word l.t.names l.all.word ≡ true)
    × (join_all (world_of l.pairs l.marks l.t) (map type_of l.words) ≡ some (join_rest (world_of l.pairs l.marks l.t) l.words (type_of l.all.word) (l.word-index + 1)))
    × (l.all.word < 2 ^ 64)
