-- `are_arrays` meets its contract.
use mathlib.Core.Path.{sym, ap, ◌∙◌}
use mathlib.Core.Bool.{Bool, ◌&&◌}
use Rattle.ty.specs.Types.{is_array}
use Rattle.ty.specs.Words.{type_of}
use Rattle.assignable.proofs.are_arrays.Goals as goal

pub returns-then-is_array : goal.returns-then-is_array
returns-then-is_array c =
    let r = c.args.right.word in
    c.is_array-then-is_array.ensures ∙ sym (ap (λ (b : Bool). b && is_array (type_of r)) (sym c.is_array.ensures ∙ c.if-is_array.true))

pub returns : goal.returns
returns c =
    let r = c.args.right.word in
    sym (ap (λ (b : Bool). b && is_array (type_of r)) (sym c.is_array.ensures ∙ c.if-is_array.false))
