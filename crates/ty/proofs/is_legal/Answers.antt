-- `is_legal` meets its contract, by the tag.
use mathlib.Core.Path.{sym, ◌∙◌}
use Rattle.ty.specs.Steps.{check-primitive, check-object, check-unknown, check-none}
use Rattle.ty.proofs.is_legal.Goals as goal

pub returns-then-tag-eq0 : goal.returns-then-tag-eq0
returns-then-tag-eq0 c = let a = c.args in sym (check-primitive a.names a.word c.if-tag-eq0.true)

pub returns-then-tag-eq1 : goal.returns-then-tag-eq1
returns-then-tag-eq1 c = let a = c.args in sym (check-object a.names a.word c.if-tag-eq1.true)

pub returns-then-tag-eq2 : goal.returns-then-tag-eq2
returns-then-tag-eq2 c = let a = c.args in c.good_unknown.ensures ∙ sym (check-unknown a.names a.word c.if-tag-eq2.true)

pub returns : goal.returns
returns c = let a = c.args in sym (check-none a.names a.word c.if-tag-eq0.false c.if-tag-eq1.false c.if-tag-eq2.false)
