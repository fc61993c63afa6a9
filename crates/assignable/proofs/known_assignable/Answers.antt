-- `known_assignable` meets its contract.
use mathlib.Core.Path.{sym, ap, ◌∙◌}
use native.Mathlib.Omega.{arith}
use Rattle.ty.specs.Types.{ArgType, Primitive, Object}
use Rattle.ty.specs.Words.{type_of}
use Rattle.lattice.specs.Lattice.{assignable_apart}
use Rattle.lattice.specs.World.{world_of}
use Rattle.assignable.specs.Steps.{object-load, primitive-load, class-lt, primitives, from-primitive, from-reference}
use Rattle.assignable.proofs.known_assignable.Goals as goal

pub to_class-requires : goal.to_class-requires
to_class-requires c =
    let q = c.load.ensures in
    let l = class-lt c.args.expected.word c.requires.1 (sym c.is_object.ensures ∙ c.if-is_object.true) in
    (c.requires.0, c.requires.2, omega arith)

pub returns-then-is_object : goal.returns-then-is_object
returns-then-is_object c =
    let a = c.args in
    c.to_class.ensures
    ∙ ap (λ (u : ArgType). assignable_apart (world_of a.pairs.now a.marks.now a.t) (type_of a.value.word) u)
    (ap Object c.load.ensures ∙ sym (object-load a.expected.word (sym c.is_object.ensures ∙ c.if-is_object.true)))

pub returns-then-is_primitive-2 : goal.returns-then-is_primitive-2
returns-then-is_primitive-2 c =
    let a = c.args in
    let v = c.load-then-is_primitive-2 in
    let e = c.load-then-is_primitive-2-2 in
    c.primitive_assignable.ensures
    ∙ primitives (world_of a.pairs.now a.marks.now a.t) (type_of a.value.word) (type_of a.expected.word) v.result e.result
    (primitive-load a.value.word (sym c.is_primitive.ensures ∙ c.if-is_primitive.true) ∙ ap Primitive (sym v.ensures))
    (primitive-load a.expected.word (sym c.is_primitive-then-is_primitive.ensures ∙ c.if-is_primitive-2.true) ∙ ap Primitive (sym e.ensures))

pub returns-then-is_primitive : goal.returns-then-is_primitive
returns-then-is_primitive c =
    let a = c.args in
    from-primitive (world_of a.pairs.now a.marks.now a.t) (type_of a.value.word) (type_of a.expected.word)
    (sym c.is_primitive.ensures ∙ c.if-is_primitive.true) c.requires.3 (sym c.is_object.ensures ∙ c.if-is_object.false)
    (sym c.is_primitive-then-is_primitive.ensures ∙ c.if-is_primitive-2.false)

pub returns : goal.returns
returns c =
    let a = c.args in
    from-reference (world_of a.pairs.now a.marks.now a.t) (type_of a.value.word) (type_of a.expected.word)
    (sym c.is_primitive.ensures ∙ c.if-is_primitive.false) c.requires.2 c.requires.3 (sym c.is_object.ensures ∙ c.if-is_object.false) c.requires.4
