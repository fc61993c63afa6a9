-- `observed_accepts` meets its contract.
use mathlib.Core.Path.{sym, ◌∙◌}
use Rattle.ty.specs.Words.{type_of}
use Rattle.candidates.specs.Steps.{observed-equal, observed-other, observed-unknown}
use Rattle.candidates.proofs.observed_accepts.Goals as goal

pub returns-then-observed-candidate : goal.returns-then-observed-candidate
returns-then-observed-candidate c =
    let a = c.args in
    observed-equal a.observed.word a.candidate.word (sym c.is_known.ensures ∙ c.if-is_known.true) c.if-observed-candidate.true

pub returns-then-is_known : goal.returns-then-is_known
returns-then-is_known c = c.same_register_category.ensures
    ∙ observed-other c.args.observed.word c.args.candidate.word (sym c.is_known.ensures ∙ c.if-is_known.true) c.requires.0 c.requires.1 c.if-observed-candidate.false

pub returns : goal.returns
returns c =
    let a = c.args in
    c.unknown_accepts.ensures
    ∙ observed-unknown (type_of a.observed.word) (type_of a.candidate.word) (sym c.is_known.ensures ∙ c.if-is_known.false)
