-- `tell` meets its contract: refused, or the ancestors, or the answer.
use mathlib.Core.Path.{refl}
use Rattle.questions.specs.Laws.{tells-refused, tells-answer, tells-ancestors}
use Rattle.questions.proofs.tell.Goals as goal

pub returns-then-o-ne0 : goal.returns-then-o-ne0
returns-then-o-ne0 c =
    let a = c.args in
    tells-refused a.o _ _ a.set a.q a.a a.b _ _ c.if-o-ne0.true refl c.none_gathered.ensures

pub returns-then-set : goal.returns-then-set
returns-then-set c =
    let a = c.args in
    tells-ancestors a.o _ _ a.set a.q a.a a.b _ _ c.if-o-ne0.false c.if-set.true _ c.gather.ensures c.ancestors.ensures

pub value_of-value-requires : goal.value_of-value-requires
value_of-value-requires c =
    let z = c.if-o-ne0.false in
    (c.requires.wide z, c.requires.fits z, c.requires.numbers-in z, c.requires.keys-alone)

pub returns : goal.returns
returns c =
    let a = c.args in
    tells-answer a.o _ _ a.set a.q a.a a.b _ _ c.if-o-ne0.false c.if-set.false _ refl c.value_of-value.ensures
