-- `are_references` meets its contract.
use mathlib.Core.Path.{sym, ap, ◌∙◌}
use mathlib.Core.Bool.{Bool, ◌&&◌}
use Rattle.ty.specs.Types.{is_reference}
use Rattle.ty.specs.Words.{type_of}
use Rattle.candidates.proofs.are_references.Goals as goal

pub returns-then-is_reference : goal.returns-then-is_reference
returns-then-is_reference c =
    let r = c.args.right.word in
    c.is_reference-then-is_reference.ensures ∙ sym (ap (λ (b : Bool). b && is_reference (type_of r)) (sym c.is_reference.ensures ∙ c.if-is_reference.true))

pub returns : goal.returns
returns c =
    let r = c.args.right.word in
    sym (ap (λ (b : Bool). b && is_reference (type_of r)) (sym c.is_reference.ensures ∙ c.if-is_reference.false))
