-- `same_register_category` meets its contract.
use mathlib.Core.Path.{sym, ap, ◌∙◌}
use mathlib.Core.Bool.{not}
use Rattle.ty.specs.Words.{type_of}
use Rattle.candidates.specs.Steps.{registers-references, registers-wide, registers-narrow, registers-left, registers-other}
use Rattle.candidates.proofs.same_register_category.Goals as goal

pub returns-then-are_references : goal.returns-then-are_references
returns-then-are_references c =
    let a = c.args in
    registers-references (type_of a.left.word) (type_of a.right.word) (sym c.are_references.ensures ∙ c.if-are_references.true)

pub returns-then-is_wide : goal.returns-then-is_wide
returns-then-is_wide c =
    let a = c.args in
    c.is_wide-then-is_wide.ensures
    ∙ registers-wide (type_of a.left.word) (type_of a.right.word)
    (sym c.is_primitive.ensures ∙ c.if-is_primitive.true) (sym c.is_primitive-then-is_primitive.ensures ∙ c.if-is_primitive-2.true) (sym c.is_wide.ensures ∙ c.if-is_wide.true)

pub returns-then-is_primitive-2 : goal.returns-then-is_primitive-2
returns-then-is_primitive-2 c =
    let a = c.args in
    ap not c.is_wide-then-is_primitive-2.ensures
    ∙ registers-narrow (type_of a.left.word) (type_of a.right.word)
    (sym c.is_primitive.ensures ∙ c.if-is_primitive.true) (sym c.is_primitive-then-is_primitive.ensures ∙ c.if-is_primitive-2.true) (sym c.is_wide.ensures ∙ c.if-is_wide.false)

pub returns-then-is_primitive : goal.returns-then-is_primitive
returns-then-is_primitive c =
    let a = c.args in
    registers-left (type_of a.left.word) (type_of a.right.word)
    (sym c.is_primitive.ensures ∙ c.if-is_primitive.true) (sym c.is_primitive-then-is_primitive.ensures ∙ c.if-is_primitive-2.false)

pub returns : goal.returns
returns c =
    let a = c.args in
    registers-other (type_of a.left.word) (type_of a.right.word) (sym c.is_primitive.ensures ∙ c.if-is_primitive.false) (sym c.are_references.ensures ∙ c.if-are_references.false)
