-- `any_accepts` meets its contract: what is left to ask is the question of the words from the index on.
use mathlib.Core.Path.{◌≡◌}
use mathlib.Core.List.{map}
use Rattle.ty.specs.Words.{type_of}
use Rattle.lattice.specs.Lattice.{any_accepts}
use Rattle.candidates.specs.Steps.{types_from}
use Rattle.candidates.proofs.any_accepts.Given as goal

abbrev pub invariant-loop-word : goal.invariant-loop-word
invariant-loop-word l = any_accepts (map type_of l.domain) (type_of l.candidate.word) ≡ any_accepts (types_from l.word-index l.domain) (type_of l.candidate.word)
