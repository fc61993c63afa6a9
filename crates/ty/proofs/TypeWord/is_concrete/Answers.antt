-- `TypeWord::is_concrete` meets its contract, by the tag.
use Rattle.ty.specs.Steps.{concrete-object-category, concrete-other, concrete-tag}
use Rattle.ty.proofs.TypeWord.is_concrete.Goals as goal

pub returns-then-load-eq-OBJECT : goal.returns-then-load-eq-OBJECT
returns-then-load-eq-OBJECT c = concrete-object-category c.args.self.word c.if-tag-eq0.true c.if-load-eq-OBJECT.true

pub returns-then-tag-eq0 : goal.returns-then-tag-eq0
returns-then-tag-eq0 c = concrete-other c.args.self.word c.if-tag-eq0.true c.if-load-eq-OBJECT.false

pub returns : goal.returns
returns c = concrete-tag c.args.self.word c.if-tag-eq0.false
