-- `is_zero` meets its contract: what was gathered of the first words is zero only where they are.
use Rattle.clearing.proofs.Steps.{Gathered}
use Rattle.clearing.proofs.is_zero.Given as goal

abbrev pub invariant-loop-word : goal.invariant-loop-word
invariant-loop-word l = Gathered l.words l.any l.word-index
