-- WHAT IS PRINTED OF WHAT A FRAME SAYS, as code has it, and what a line leaves. Every definition that a contract of this crate cites.
use Rattle.std.specs.Prelude.{◌≡◌, List, [], ℕ}
use Rattle.lineout.specs.Printed.{number_text, printed, variable_lines, refusal_line, Puts}
use Rattle.frames.specs.Frames.{Store, frame}
use Rattle.frames.specs.Typeline.{print}
use Rattle.framestate.specs.declared.Said.{Said}
use Rattle.framestate.specs.declared.Said.TheVariants.{Accepted, Solved, Related, Supertyped, Castable, Refused}
use Rattle.framestate.specs.FrameState.{Slices, Shows, answers_after}
use Rattle.saying.specs.declared.Spoken.{Spoken}

-- of the line with this number, whose answers are these words
unfoldable pub said_text : ℕ → Said → List ℕ → List ℕ
said_text line Accepted words = []
said_text line Solved words = variable_lines 0 words
said_text line (Related k) words = printed 82 (number_text k)
said_text line (Supertyped c) words = printed 76 (number_text c)
said_text line (Castable b) words = printed 67 (number_text b)
said_text line (Refused k) words = refusal_line line k

-- WHAT A LINE LEAVES: the state after it in the slices, what it prints in the buffer
pub record Speaks (line : List ℕ) (number : ℕ) (s : Store) (before after : Slices) (answers answers' : List ℕ) (filled : ℕ) (out out' : List ℕ) (r : Spoken) : Type 0 where
  pub shows : Shows (frame line s).store before after r.numbers
  pub answers-are : answers' ≡ answers_after (frame line s).said answers
  pub prints : Puts (print number (frame line s).said) filled out out' r.filled
