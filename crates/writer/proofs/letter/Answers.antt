-- `letter` meets its contract: the table is the one of the definition.
use mathlib.Core.Path.{refl}
use Rattle.text.specs.Text.{ascii}
use Rattle.writer.specs.Print.{letter_byte}
use Rattle.writer.proofs.letter.Goals as goal

pub returns : goal.returns
unfolding letter_byte ascii
returns c = refl
