-- `with_class` meets its contract.
use borrow.Author.Tests.{lt-ltb, le-ltb}
use mathlib.Core.Path.{◌∙◌}
use Rattle.hierarchy.proofs.with_class.Goals as goal

pub returns-then-p-names : goal.returns-then-p-names
returns-then-p-names c = c.with.ensures ∙ simp (lt-ltb _ _ c.if-p-names.true)

pub returns : goal.returns
returns c = simp (le-ltb _ _ c.if-p-names.false)
