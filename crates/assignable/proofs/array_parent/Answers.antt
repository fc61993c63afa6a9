-- `array_parent` meets its contract: a missing number is no class's.
use mathlib.Core.Path.{refl}
use mathlib.Core.List.{[]}
use Rattle.lattice.specs.World.{world_of}
use Rattle.assignable.specs.Steps.{parent-object, parent-cloneable, parent-serializable}
use Rattle.assignable.proofs.array_parent.Goals as goal

pub returns-then-class-t : goal.returns-then-class-t
returns-then-class-t c =
    let a = c.args in
    parent-object (world_of [] [] a.t) a.class a.t.cloneable a.t.serializable c.requires refl refl c.if-class-t.true

pub returns-then-class-t-2 : goal.returns-then-class-t-2
returns-then-class-t-2 c =
    let a = c.args in
    parent-cloneable (world_of [] [] a.t) a.class a.t.cloneable a.t.serializable c.requires refl refl c.if-class-t.false c.if-class-t-2.true

pub returns : goal.returns
returns c =
    let a = c.args in
    parent-serializable (world_of [] [] a.t) a.class a.t.cloneable a.t.serializable c.requires refl refl c.if-class-t.false c.if-class-t-2.false
