-- `single_hint` meets its contract, by the length and the one category.
use mathlib.Core.Path.{sym, ap}
use Rattle.ty.specs.Answers.{maybe_word}
use Rattle.ty.specs.Words.{word_of}
use Rattle.ty.specs.Steps.{hint-many, hint-object, hint-array, hint-primitive}
use Rattle.ty.proofs.single_hint.Goals as goal

pub returns-then-load-ne1 : goal.returns-then-load-ne1
returns-then-load-ne1 c = let a = c.args in sym (ap maybe_word (hint-many a.object a.load c.if-load-ne1.true))

pub returns-then-c-eq-OBJECT : goal.returns-then-c-eq-OBJECT
unfolding word_of
returns-then-c-eq-OBJECT c =
    let a = c.args in
    sym (ap maybe_word (hint-object a.object a.load _ c.digit-c.ensures c.if-load-ne1.false c.if-c-eq-OBJECT.true))

pub returns-then-c-eq-ARRAY : goal.returns-then-c-eq-ARRAY
returns-then-c-eq-ARRAY c =
    let a = c.args in
    sym (ap maybe_word (hint-array a.object a.load _ c.digit-c.ensures c.if-load-ne1.false c.if-c-eq-ARRAY.true))

pub returns : goal.returns
unfolding word_of
returns c =
    let a = c.args in
    sym (ap maybe_word (hint-primitive a.object a.load _ c.digit-c.ensures c.if-load-ne1.false c.if-c-eq-OBJECT.false c.if-c-eq-ARRAY.false))
