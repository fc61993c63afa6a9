-- `TypeWord::array` meets its contract.
use borrow.Author.Tests.{lt-ltb, le-ltb}
use Rattle.ty.specs.Answers.{array_word}
use Rattle.ty.proofs.TypeWord.array.Goals as goal

pub returns-then-w-lt-FULL : goal.returns-then-w-lt-FULL
unfolding array_word
returns-then-w-lt-FULL c = simp (lt-ltb _ _ c.if-w-lt-FULL.true)

pub returns : goal.returns
unfolding array_word
returns c = simp (le-ltb _ _ c.if-w-lt-FULL.false)
