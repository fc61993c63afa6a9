-- `join_known` meets its contract.
use mathlib.Core.Path.{sym, ap, ◌∙◌}
use Rattle.ty.specs.Words.{type_of, word_of}
use Rattle.ty.specs.Round.{word-of-type}
use Rattle.joins.specs.Lists.{known-in, known-out}
use Rattle.joins.proofs.join_known.Goals as goal

pub returns-then-categories-c-eq1 : goal.returns-then-categories-c-eq1
returns-then-categories-c-eq1 c =
    let a = c.args in
    let p = c.requires in
    let k = c.category-c in
    sym (ap word_of (known-in (type_of a.known.word) (type_of a.unknown.word) _ _ p.2 k.ensures.0 c.categories.ensures c.if-categories-c-eq1.true) ∙ word-of-type 1024 a.known.word p.0)

pub returns : goal.returns
returns c =
    let a = c.args in
    let p = c.requires in
    let k = c.category-c in
    c.unknown_union.ensures
    ∙ sym (ap word_of (known-out (type_of a.known.word) (type_of a.unknown.word) _ _ p.2 k.ensures.0 c.categories.ensures c.if-categories-c-eq1.false))
