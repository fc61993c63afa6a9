-- `TypeWord::element` meets its contract.
use borrow.Author.Tests.{le-leb, lt-leb}
use Rattle.ty.specs.Answers.{element_word}
use Rattle.ty.proofs.TypeWord.element.Goals as goal

pub returns-then-w-ge-DIMENSION : goal.returns-then-w-ge-DIMENSION
unfolding element_word
returns-then-w-ge-DIMENSION c = simp (le-leb _ _ c.if-w-ge-DIMENSION.true)

pub returns : goal.returns
unfolding element_word
returns c = simp (lt-leb _ _ c.if-w-ge-DIMENSION.false)
