-- `parser::byte_at` meets its contract: each branch's test says which case of `byte_at` holds.
use borrow.Author.Tests.{le-ltb, lt-ltb}
use Rattle.parser.proofs.byte_at.Goals as goal

pub returns-then-at-s : goal.returns-then-at-s
returns-then-at-s c = simp (lt-ltb _ _ c.if-at-s.true)

pub returns-else-at-s : goal.returns-else-at-s
returns-else-at-s c = simp (le-ltb _ _ c.if-at-s.false)
