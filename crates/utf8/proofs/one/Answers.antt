-- `one` meets its contract: the test of the byte at i is the row's, and past the end no row matches.
use borrow.Author.Tests.{le-leb, lt-leb}
use mathlib.Core.Path.{sym, ◌∙◌}
use Rattle.utf8.specs.Utf8.{◌‥◌, within}
use Rattle.utf8.proofs.Part.{match-at, match-past}
use Rattle.utf8.proofs.one.Goals as goal

pub returns-then-lo-b : goal.returns-then-lo-b
unfolding within
returns-then-lo-b c =
    let a = c.args in
    sym (match-at (a.lo ‥ a.hi) a.s.now a.i a.to c.requires c.if-i-to.true ∙ rw (le-leb _ _ c.if-lo-b.true))

pub returns-else-lo-b : goal.returns-else-lo-b
unfolding within
returns-else-lo-b c =
    let a = c.args in
    sym (match-at (a.lo ‥ a.hi) a.s.now a.i a.to c.requires c.if-i-to.true ∙ rw (lt-leb _ _ c.if-lo-b.false))

pub returns : goal.returns
returns c =
    let a = c.args in
    sym (match-past (a.lo ‥ a.hi) a.s.now a.i a.to c.requires c.if-i-to.false)
