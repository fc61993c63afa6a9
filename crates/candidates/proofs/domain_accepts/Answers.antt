-- `domain_accepts` meets its contract.
use mathlib.Core.Path.{◌∙◌}
use Rattle.ty.specs.Words.{type_of}
use Rattle.candidates.specs.Steps.{domain-none, domain-some}
use Rattle.candidates.proofs.domain_accepts.Goals as goal

pub returns-then-domain-eq0 : goal.returns-then-domain-eq0
returns-then-domain-eq0 c =
    let a = c.args in
    domain-none a.domain.now (type_of a.candidate.word) c.if-domain-eq0.true

pub returns : goal.returns
returns c =
    let a = c.args in
    c.any_accepts.ensures ∙ domain-some a.domain.now (type_of a.candidate.word) c.if-domain-eq0.false
