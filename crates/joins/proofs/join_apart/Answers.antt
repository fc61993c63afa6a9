-- `join_apart` meets its contract.
use mathlib.Core.Path.{sym, ◌∙◌}
use Rattle.joins.specs.Cases.{legal-left, legal-right, word-unknowns, word-right-unknown, word-left-unknown}
use Rattle.joins.proofs.join_apart.Goals as goal

pub join_knowns-requires : goal.join_knowns-requires
join_knowns-requires c =
    let p = c.requires in
    (p.0, sym c.is_known.ensures ∙ c.if-is_known.true, sym c.is_known-then-is_known.ensures ∙ c.if-is_known-2.true, p.1)

pub join_known-requires : goal.join_known-requires
join_known-requires c =
    let a = c.args in
    let p = c.requires in
    (legal-left a.pairs.now a.marks.now a.t p.0.0.0 a.left.word a.right.word p.0.0.1 p.0.0.2, legal-right a.pairs.now a.marks.now a.t p.0.0.0 a.left.word a.right.word p.0.0.1 p.0.0.2, sym c.is_known.ensures ∙ c.if-is_known.true)

pub returns-then-is_known : goal.returns-then-is_known
returns-then-is_known c =
    let a = c.args in
    let p = c.requires in
    c.join_known.ensures
    ∙ word-right-unknown a.pairs.now a.marks.now a.t p.0.0.0 a.left.word a.right.word p.0.0.1 p.0.0.2 p.0.1 (sym c.is_known.ensures ∙ c.if-is_known.true) (sym c.is_known-then-is_known.ensures ∙ c.if-is_known-2.false)

pub join_known-requires-then-is_known-3 : goal.join_known-requires-then-is_known-3
join_known-requires-then-is_known-3 c =
    let a = c.args in
    let p = c.requires in
    (legal-right a.pairs.now a.marks.now a.t p.0.0.0 a.left.word a.right.word p.0.0.1 p.0.0.2, legal-left a.pairs.now a.marks.now a.t p.0.0.0 a.left.word a.right.word p.0.0.1 p.0.0.2, sym c.is_known-2.ensures ∙ c.if-is_known-3.true)

pub returns-then-is_known-3 : goal.returns-then-is_known-3
returns-then-is_known-3 c =
    let a = c.args in
    let p = c.requires in
    c.join_known-then-is_known-3.ensures
    ∙ word-left-unknown a.pairs.now a.marks.now a.t p.0.0.0 a.left.word a.right.word p.0.0.1 p.0.0.2 p.0.1 (sym c.is_known.ensures ∙ c.if-is_known.false) (sym c.is_known-2.ensures ∙ c.if-is_known-3.true)

pub in_both-requires : goal.in_both-requires
in_both-requires c =
    let a = c.args in
    let p = c.requires in
    (legal-left a.pairs.now a.marks.now a.t p.0.0.0 a.left.word a.right.word p.0.0.1 p.0.0.2, legal-right a.pairs.now a.marks.now a.t p.0.0.0 a.left.word a.right.word p.0.0.1 p.0.0.2, sym c.is_known.ensures ∙ c.if-is_known.false)

pub returns : goal.returns
returns c =
    let a = c.args in
    let p = c.requires in
    c.in_both.ensures
    ∙ word-unknowns a.pairs.now a.marks.now a.t p.0.0.0 a.left.word a.right.word p.0.0.1 p.0.0.2 p.0.1 (sym c.is_known.ensures ∙ c.if-is_known.false) (sym c.is_known-2.ensures ∙ c.if-is_known-3.false)
