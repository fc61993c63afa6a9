-- Assignability and the array rule meet their contracts: each way out is a case of `assignable_apart`.
use Rattle.std.proofs.Common.{◌+◌, ◌-◌, ◌*◌, ◌^◌, ◌<◌, sym, ◌∙◌, arith}
use Rattle.lattice.specs.World.{world_of}
use Rattle.assignable.specs.Steps.{both-arrays, legal-elements, rule-same, rule-left, rule-right, rule-whole, equal-words, other-words}
use Rattle.assignable.proofs.+array_rule_is_assignable.Goals as goal

pub array_rule-returns-then-is_primitive-2 : goal.array_rule-returns-then-is_primitive-2
array_rule-returns-then-is_primitive-2 t c =
    let a = c.args in
    let p = c.requires in
    rule-same (world_of a.pairs.now a.marks.now a.t) a.value.word a.expected.word p.3 p.4 p.1 p.2 (sym c.if-is_primitive.ensures) (sym c.if-is_primitive-2.ensures)

pub array_rule-returns-then-is_primitive : goal.array_rule-returns-then-is_primitive
array_rule-returns-then-is_primitive t c =
    let a = c.args in
    let p = c.requires in
    rule-left (world_of a.pairs.now a.marks.now a.t) a.value.word a.expected.word p.3 p.4 (sym c.if-is_primitive.ensures) (sym c.if-is_primitive-2.ensures)

pub array_rule-returns-then-is_primitive-3 : goal.array_rule-returns-then-is_primitive-3
array_rule-returns-then-is_primitive-3 t c =
    let a = c.args in
    let p = c.requires in
    rule-right (world_of a.pairs.now a.marks.now a.t) a.value.word a.expected.word p.3 p.4 (sym c.if-is_primitive.ensures) (sym c.if-is_primitive-3.ensures)

pub array_rule-is_assignable-requires : goal.array_rule-is_assignable-requires
array_rule-is_assignable-requires t c =
    let a = c.args in
    let p = c.requires in
    (let q : 2 * (a.value.word - 2 ^ 56) + 1 < t = omega arith in q, (p.0, legal-elements a.value.word p.3 p.1, legal-elements a.expected.word p.4 p.2))

pub array_rule-returns : goal.array_rule-returns
array_rule-returns t c =
    let a = c.args in
    let p = c.requires in
    c.is_assignable.ensures
    ∙ rule-whole (world_of a.pairs.now a.marks.now a.t) a.value.word a.expected.word p.3 p.4 (sym c.if-is_primitive.ensures) (sym c.if-is_primitive-3.ensures)

pub is_assignable-returns-then-value-expected : goal.is_assignable-returns-then-value-expected
is_assignable-returns-then-value-expected t c =
    let a = c.args in
    equal-words (world_of a.pairs.now a.marks.now a.t) a.value.word a.expected.word c.if-value-expected.true

pub is_assignable-array_rule-requires : goal.is_assignable-array_rule-requires
is_assignable-array_rule-requires t c =
    let a = c.args in
    let p = c.requires in
    let b = both-arrays a.value.word a.expected.word (sym c.if-are_arrays.ensures) in
    (let q : 2 * a.value.word < t = omega arith in q, (p.0, p.1, p.2, b.0, b.1))

pub is_assignable-returns-then-are_arrays : goal.is_assignable-returns-then-are_arrays
is_assignable-returns-then-are_arrays t c =
    let a = c.args in
    let p = c.requires in
    c.array_rule.ensures ∙ other-words (world_of a.pairs.now a.marks.now a.t) a.value.word a.expected.word p.1 p.2 c.if-value-expected.false

pub is_assignable-returns : goal.is_assignable-returns
is_assignable-returns t c =
    let a = c.args in
    let p = c.requires in
    c.bases_assignable.ensures ∙ other-words (world_of a.pairs.now a.marks.now a.t) a.value.word a.expected.word p.1 p.2 c.if-value-expected.false
