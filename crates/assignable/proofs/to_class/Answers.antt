-- `to_class` meets its contract: an array, a class, or what is no reference.
use mathlib.Core.Path.{sym, ap, ◌∙◌}
use Rattle.ty.specs.Types.{Object}
use Rattle.ty.specs.Words.{type_of}
use Rattle.lattice.specs.Lattice.{not_no, array_parent}
use Rattle.lattice.specs.World.{world_of}
use Rattle.assignable.specs.Steps.{object-load, array-to-class, class-to-class, other-to-class}
use Rattle.assignable.proofs.to_class.Goals as goal

pub returns-then-is_array : goal.returns-then-is_array
unfolding array_parent
returns-then-is_array c =
    let a = c.args in
    c.array_parent.ensures
    ∙ array-to-class (world_of a.pairs.now a.marks.now a.t) (type_of a.value.word) a.class (sym c.is_array.ensures ∙ c.if-is_array.true)

pub returns-then-is_object : goal.returns-then-is_object
returns-then-is_object c =
    let a = c.args in
    let l = c.load in
    c.not_no.ensures
    ∙ ap not_no c.relation_of-r.ensures
    ∙ class-to-class (world_of a.pairs.now a.marks.now a.t) (type_of a.value.word) l.result a.class
    (object-load a.value.word (sym c.is_object.ensures ∙ c.if-is_object.true) ∙ ap Object (sym l.ensures))

pub returns : goal.returns
returns c =
    let a = c.args in
    other-to-class (world_of a.pairs.now a.marks.now a.t) (type_of a.value.word) a.class c.requires.1
    (sym c.is_array.ensures ∙ c.if-is_array.false) (sym c.is_object.ensures ∙ c.if-is_object.false)
