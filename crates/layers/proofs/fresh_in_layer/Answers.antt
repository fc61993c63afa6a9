-- `fresh_in_layer` meets its contract: looked up among all keys where the layer records the class, else among none.
use mathlib.Core.Path.{sym, ◌∙◌}
use lib.ListN.{take}
use Rattle.layers.specs.Laws.{fresh-own, fresh-first}
use Rattle.layers.proofs.fresh_in_layer.Goals as goal

pub returns-then-has : goal.returns-then-has
returns-then-has c =
    let a = c.args in
    c.fresh.ensures ∙ fresh-own a.own.words a.class a.parents.now (take a.n a.pairs.now) c.requires.2 c.requires.1 (sym c.has.ensures ∙ c.if-has.true)

pub returns : goal.returns
returns c =
    let a = c.args in
    c.fresh-2.ensures ∙ fresh-first a.own.words a.class a.parents.now (take a.n a.pairs.now) c.requires.2 c.requires.1 (sym c.has.ensures ∙ c.if-has.false)
