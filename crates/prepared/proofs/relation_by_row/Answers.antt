-- `relation_by_row` meets its contract, one law for each answer.
use mathlib.Core.Path.{sym, ap₂, ◌∙◌}
use mathlib.Core.List.{List}
use Prim.Native.Nat.{ℕ}
use native.Mathlib.Omega.{arith}
use Rattle.sets.specs.Sets.{subtract}
use Rattle.hierarchy.proofs.Answers.{relation-equal, relation-object, relation-reached, relation-no, relation-unknown}
use Rattle.prepared.specs.Prepared.{rows-length, row-there, row-is, row-tells}
use Rattle.prepared.proofs.relation_by_row.Goals as goal

pub returns-then-value-expected : goal.returns-then-value-expected
returns-then-value-expected c =
    let a = c.args in
    relation-equal a.pairs.now a.marks.now a.t a.value a.expected c.if-value-expected.true

pub returns-then-expected-t : goal.returns-then-expected-t
returns-then-expected-t c =
    let a = c.args in
    relation-object a.pairs.now a.marks.now a.t a.value a.expected c.if-value-expected.false c.if-expected-t.true

pub slice_bounds-row_of-end : goal.slice_bounds-row_of-end
slice_bounds-row_of-end c =
    let l = (row-there c.args.pairs.now c.args.t c.args.value c.requires.1).0 in
    omega arith

pub row_of-seen-requires : goal.row_of-seen-requires
row_of-seen-requires c =
    let w = row-there c.args.pairs.now c.args.t c.args.value c.requires.1 in
    (rows-length c.args.pairs.now w.0, w.2)

pub returns-then-has : goal.returns-then-has
returns-then-has c =
    let a = c.args in
    let r = c.row_of-seen in
    relation-reached a.pairs.now a.marks.now a.t a.value a.expected c.if-value-expected.false c.if-expected-t.false
    (row-tells a.pairs.now a.marks.now a.t c.requires.0 a.value c.requires.1 r.result.words r.ensures a.expected c.has.result c.has.ensures ∙ c.if-has.true)

pub recorded-requires : goal.recorded-requires
recorded-requires c = c.requires.0.long

pub returns-then-lowest-eq-NAMES : goal.returns-then-lowest-eq-NAMES
returns-then-lowest-eq-NAMES c =
    let a = c.args in
    let r = c.row_of-seen in
    let d = c.difference-unrecorded in
    relation-no a.pairs.now a.marks.now a.t a.value a.expected c.if-value-expected.false c.if-expected-t.false c.requires.0.long
    (row-tells a.pairs.now a.marks.now a.t c.requires.0 a.value c.requires.1 r.result.words r.ensures a.expected c.has.result c.has.ensures ∙ c.if-has.false)
    d.result.words
    (d.ensures ∙ ap₂ (λ (x k : List ℕ). subtract x k) (row-is a.pairs.now a.marks.now a.t c.requires.0 a.value c.requires.1 r.result.words r.ensures) c.recorded.ensures)
    (sym c.lowest.ensures ∙ c.if-lowest-eq-NAMES.true)

pub returns : goal.returns
returns c =
    let a = c.args in
    let r = c.row_of-seen in
    let d = c.difference-unrecorded in
    relation-unknown a.pairs.now a.marks.now a.t a.value a.expected c.if-value-expected.false c.if-expected-t.false c.requires.0.long
    (row-tells a.pairs.now a.marks.now a.t c.requires.0 a.value c.requires.1 r.result.words r.ensures a.expected c.has.result c.has.ensures ∙ c.if-has.false)
    d.result.words
    (d.ensures ∙ ap₂ (λ (x k : List ℕ). subtract x k) (row-is a.pairs.now a.marks.now a.t c.requires.0 a.value c.requires.1 r.result.words r.ensures) c.recorded.ensures)
    (λ e. c.if-lowest-eq-NAMES.false (c.lowest.ensures ∙ e))
