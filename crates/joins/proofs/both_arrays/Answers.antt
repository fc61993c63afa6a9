-- `both_arrays` meets its contract.
use mathlib.Core.Path.{sym, ◌∙◌}
use Rattle.joins.specs.Cases.{arrays-true, arrays-false}
use Rattle.joins.proofs.both_arrays.Goals as goal

pub returns-then-is_array : goal.returns-then-is_array
returns-then-is_array c = c.is_array-then-is_array.ensures ∙ arrays-true _ _ (sym c.is_array.ensures ∙ c.if-is_array.true)

pub returns : goal.returns
returns c = arrays-false _ _ (sym c.is_array.ensures ∙ c.if-is_array.false)
