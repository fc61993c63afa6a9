-- `join_bases` meets its contract, by what the two are.
use mathlib.Core.Path.{sym, ap₂, ◌∙◌}
use Prim.Native.Nat.{ℕ}
use native.Mathlib.Omega.{arith}
use Rattle.ty.specs.Types.{Object}
use Rattle.ty.specs.Words.{word_of}
use Rattle.lattice.specs.Lattice.{join_apart}
use Rattle.lattice.specs.JoinTable.{cell}
use Rattle.lattice.specs.World.{world_of}
use Rattle.joins.specs.Cases.{legal-left, legal-right, primitive-lt, object-lt, word-primitives, word-left-primitive, word-right-primitive, word-classes}
use Rattle.joins.proofs.join_bases.Goals as goal

pub join_primitives-requires : goal.join_primitives-requires
join_primitives-requires c =
    let a = c.args in
    let p = c.requires in
    let l = c.load.ensures in
    let r = c.load-then-is_primitive-2.ensures in
    let x = primitive-lt a.left.word a.t.names p.0.0.1 (sym c.is_primitive.ensures ∙ c.if-is_primitive.true) in
    let y = primitive-lt a.right.word a.t.names p.0.0.2 (sym c.is_primitive-then-is_primitive.ensures ∙ c.if-is_primitive-2.true) in
    (omega arith, omega arith)

pub returns-then-is_primitive-2 : goal.returns-then-is_primitive-2
returns-then-is_primitive-2 c =
    let a = c.args in
    let p = c.requires in
    c.join_primitives.ensures
    ∙ ap₂ cell c.load.ensures c.load-then-is_primitive-2.ensures
    ∙ word-primitives a.pairs.now a.marks.now a.t p.0.0.0 a.left.word a.right.word p.0.0.1 p.0.0.2 p.0.1 (sym c.is_primitive.ensures ∙ c.if-is_primitive.true) (sym c.is_primitive-then-is_primitive.ensures ∙ c.if-is_primitive-2.true)

pub unknown_union-requires : goal.unknown_union-requires
unknown_union-requires c =
    let a = c.args in
    let p = c.requires in
    (legal-left a.pairs.now a.marks.now a.t p.0.0.0 a.left.word a.right.word p.0.0.1 p.0.0.2, legal-right a.pairs.now a.marks.now a.t p.0.0.0 a.left.word a.right.word p.0.0.1 p.0.0.2)

pub returns-then-is_primitive : goal.returns-then-is_primitive
returns-then-is_primitive c =
    let a = c.args in
    let p = c.requires in
    c.unknown_union.ensures
    ∙ word-left-primitive a.pairs.now a.marks.now a.t p.0.0.0 a.left.word a.right.word p.0.0.1 p.0.0.2 p.0.1 (sym c.is_primitive.ensures ∙ c.if-is_primitive.true) p.2 (sym c.is_primitive-then-is_primitive.ensures ∙ c.if-is_primitive-2.false)

pub unknown_union-requires-then-is_primitive-3 : goal.unknown_union-requires-then-is_primitive-3
unknown_union-requires-then-is_primitive-3 c =
    let a = c.args in
    let p = c.requires in
    (legal-left a.pairs.now a.marks.now a.t p.0.0.0 a.left.word a.right.word p.0.0.1 p.0.0.2, legal-right a.pairs.now a.marks.now a.t p.0.0.0 a.left.word a.right.word p.0.0.1 p.0.0.2)

pub returns-then-is_primitive-3 : goal.returns-then-is_primitive-3
returns-then-is_primitive-3 c =
    let a = c.args in
    let p = c.requires in
    c.unknown_union-then-is_primitive-3.ensures
    ∙ word-right-primitive a.pairs.now a.marks.now a.t p.0.0.0 a.left.word a.right.word p.0.0.1 p.0.0.2 p.0.1 p.1 (sym c.is_primitive.ensures ∙ c.if-is_primitive.false) (sym c.is_primitive-2.ensures ∙ c.if-is_primitive-3.true)

pub join_classes-requires : goal.join_classes-requires
join_classes-requires c =
    let a = c.args in
    let p = c.requires in
    let l = c.load-2.ensures in
    let r = c.load-3.ensures in
    let x = object-lt a.left.word p.1 (sym c.is_primitive.ensures ∙ c.if-is_primitive.false) a.t.names p.0.0.1 in
    let y = object-lt a.right.word p.2 (sym c.is_primitive-2.ensures ∙ c.if-is_primitive-3.false) a.t.names p.0.0.2 in
    (p.0.0.0, omega arith, omega arith, p.0.0.3)

pub returns : goal.returns
returns c =
    let a = c.args in
    let p = c.requires in
    c.join_classes.ensures
    ∙ ap₂ (λ (x y : ℕ). word_of (join_apart (world_of a.pairs.now a.marks.now a.t) (Object x) (Object y))) c.load-2.ensures c.load-3.ensures
    ∙ word-classes a.pairs.now a.marks.now a.t p.0.0.0 a.left.word a.right.word p.0.0.1 p.0.0.2 p.0.1 p.1 (sym c.is_primitive.ensures ∙ c.if-is_primitive.false) p.2 (sym c.is_primitive-2.ensures ∙ c.if-is_primitive-3.false)
