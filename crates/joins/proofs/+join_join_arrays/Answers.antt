-- `join` and `join_arrays` meet their contracts.
use Rattle.std.proofs.Common.{◌+◌, ◌-◌, ◌*◌, ◌^◌, ◌<◌, sym, ◌∙◌, arith}
use Rattle.ty.specs.Words.{dims_of}
use Rattle.joins.specs.Cases.{object-lt-1024, word-same, arrays-high, legal-elements, word-arrays-left, word-arrays-right, word-arrays, arrays-fit}
use Rattle.joins.proofs.+join_join_arrays.Goals as goal

pub join-returns-then-left-right : goal.join-returns-then-left-right
join-returns-then-left-right t c =
    let a = c.args in
    let p = c.requires in
    word-same a.pairs.now a.marks.now a.t p.0 a.left.word a.right.word p.1 p.2 c.if-left-right.true

pub join-join_arrays-requires : goal.join-join_arrays-requires
join-join_arrays-requires t c =
    let a = c.args in
    let p = c.requires in
    let h = arrays-high a.left.word a.right.word (sym c.if-both_arrays.ensures) in
    (let q : 2 * dims_of a.left.word < t = omega arith in q, ((p, c.if-left-right.false), h.0, h.1))

pub join-join_apart-requires : goal.join-join_apart-requires
join-join_apart-requires t c = ((c.requires, c.if-left-right.false), sym c.if-both_arrays.ensures)

pub join_arrays-object-requires : goal.join_arrays-object-requires
join_arrays-object-requires t c = object-lt-1024 c.args.t c.requires.0.0.0

pub join_arrays-returns-then-is_primitive : goal.join_arrays-returns-then-is_primitive
join_arrays-returns-then-is_primitive t c =
    let a = c.args in
    let p = c.requires in
    c.object.ensures
    ∙ word-arrays-left a.pairs.now a.marks.now a.t p.0.0.0 a.left.word a.right.word p.0.0.1 p.0.0.2 p.0.1 p.1 p.2 (sym c.if-is_primitive.ensures)

pub join_arrays-object-requires-then-is_primitive-2 : goal.join_arrays-object-requires-then-is_primitive-2
join_arrays-object-requires-then-is_primitive-2 t c = object-lt-1024 c.args.t c.requires.0.0.0

pub join_arrays-returns-then-is_primitive-2 : goal.join_arrays-returns-then-is_primitive-2
join_arrays-returns-then-is_primitive-2 t c =
    let a = c.args in
    let p = c.requires in
    c.object-then-is_primitive-2.ensures
    ∙ word-arrays-right a.pairs.now a.marks.now a.t p.0.0.0 a.left.word a.right.word p.0.0.1 p.0.0.2 p.0.1 p.1 p.2 (sym c.if-is_primitive-2.ensures)

pub join_arrays-join-e-requires : goal.join_arrays-join-e-requires
join_arrays-join-e-requires t c =
    let a = c.args in
    let p = c.requires in
    let e = legal-elements a.pairs.now a.marks.now a.t p.0.0.0 a.left.word a.right.word p.0.0.1 p.0.0.2 p.0.1 p.1 p.2 in
    (let q : 2 * dims_of (a.left.word - 2 ^ 56) + 1 < t = omega arith in q, (p.0.0.0, e.0, e.1, p.0.0.3))

pub join_arrays-overflow_add-result : goal.join_arrays-overflow_add-result
join_arrays-overflow_add-result t c =
    let a = c.args in
    let p = c.requires in
    let r = c.join-e in
    let f = arrays-fit a.pairs.now a.marks.now a.t p.0.0.0 a.left.word a.right.word p.0.0.1 p.0.0.2 p.0.1 p.1 p.2 (sym c.if-is_primitive.ensures) (sym c.if-is_primitive-2.ensures) r.result.word r.ensures (omega arith) (omega arith) in
    omega arith

pub join_arrays-returns : goal.join_arrays-returns
join_arrays-returns t c =
    let a = c.args in
    let p = c.requires in
    let r = c.join-e in
    word-arrays a.pairs.now a.marks.now a.t p.0.0.0 a.left.word a.right.word p.0.0.1 p.0.0.2 p.0.1 p.1 p.2 (sym c.if-is_primitive.ensures) (sym c.if-is_primitive-2.ensures) r.result.word r.ensures
