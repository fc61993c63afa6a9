-- `sequence_at` meets its contract: a byte below 80 is a whole sequence, and `longer` does the rest.
use mathlib.Core.Path.{sym, ap, ◌∙◌}
use Rattle.utf8.specs.Utf8.{sequence}
use Rattle.utf8.specs.Laws.{ascii-sequence}
use Rattle.utf8.proofs.Part.{part-cons}
use Rattle.utf8.proofs.sequence_at.Goals as goal

pub returns-then-first-lt128 : goal.returns-then-first-lt128
returns-then-first-lt128 c =
    let a = c.args in
    sym (ap sequence (part-cons a.i a.to a.s.now c.requires.0 c.requires.1) ∙ ascii-sequence _ _ c.if-first-lt128.true)

pub returns : goal.returns
returns c =
    let a = c.args in
    c.longer.ensures ∙ sym (ap sequence (part-cons a.i a.to a.s.now c.requires.0 c.requires.1))
