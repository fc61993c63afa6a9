-- `join_knowns` meets its contract.
use mathlib.Core.Path.{sym, ◌∙◌}
use native.Mathlib.Omega.{arith}
use Rattle.joins.specs.Cases.{legal-left, legal-right, arrays-true, word-left-array, word-right-array}
use Rattle.joins.proofs.join_knowns.Goals as goal

pub join_array-requires : goal.join_array-requires
join_array-requires c =
    let a = c.args in
    let p = c.requires in
    let f = p.0.0.0.0 in
    let o = p.0.0.0.1 in
    (legal-left a.pairs.now a.marks.now a.t p.0.0.0 a.left.word a.right.word p.0.0.1 p.0.0.2, legal-right a.pairs.now a.marks.now a.t p.0.0.0 a.left.word a.right.word p.0.0.1 p.0.0.2, omega arith)

pub returns-then-is_array : goal.returns-then-is_array
returns-then-is_array c =
    let a = c.args in
    let p = c.requires in
    c.join_array.ensures
    ∙ word-left-array a.pairs.now a.marks.now a.t p.0.0.0 a.left.word a.right.word p.0.0.1 p.0.0.2 p.0.1 (sym c.is_array.ensures ∙ c.if-is_array.true) (p.2, arrays-true a.left.word a.right.word (sym c.is_array.ensures ∙ c.if-is_array.true) ∙ p.3)

pub join_array-requires-then-is_array-2 : goal.join_array-requires-then-is_array-2
join_array-requires-then-is_array-2 c =
    let a = c.args in
    let p = c.requires in
    let f = p.0.0.0.0 in
    let o = p.0.0.0.1 in
    (legal-right a.pairs.now a.marks.now a.t p.0.0.0 a.left.word a.right.word p.0.0.1 p.0.0.2, legal-left a.pairs.now a.marks.now a.t p.0.0.0 a.left.word a.right.word p.0.0.1 p.0.0.2, omega arith)

pub returns-then-is_array-2 : goal.returns-then-is_array-2
returns-then-is_array-2 c =
    let a = c.args in
    let p = c.requires in
    c.join_array-then-is_array-2.ensures
    ∙ word-right-array a.pairs.now a.marks.now a.t p.0.0.0 a.left.word a.right.word p.0.0.1 p.0.0.2 p.0.1 (sym c.is_array-2.ensures ∙ c.if-is_array-2.true) (p.1, sym c.is_array.ensures ∙ c.if-is_array.false)

pub join_bases-requires : goal.join_bases-requires
join_bases-requires c =
    let p = c.requires in
    (p.0, (p.1, sym c.is_array.ensures ∙ c.if-is_array.false), (p.2, sym c.is_array-2.ensures ∙ c.if-is_array-2.false))
