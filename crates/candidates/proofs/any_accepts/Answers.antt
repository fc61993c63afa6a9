-- `any_accepts` meets its contract: what is left to ask is the question of the words from the index on.
use mathlib.Core.Path.{refl, sym, ◌∙◌}
use native.Mathlib.Omega.{arith}
use Rattle.ty.specs.Words.{type_of}
use Rattle.candidates.specs.Steps.{any-here, any-later, any-end}
use Rattle.candidates.proofs.any_accepts.Goals as goal

pub loop-word-init : goal.loop-word-init
loop-word-init c = refl

pub observed_accepts-requires : goal.observed_accepts-requires
observed_accepts-requires c = (c.requires.0 c.loop-word.word-index (omega arith), c.requires.1)

pub returns-then-observed_accepts : goal.returns-then-observed_accepts
returns-then-observed_accepts c =
    let a = c.args in
    let l = c.loop-word in
    sym (l.invariant ∙ any-here a.domain.now l.word-index (type_of a.candidate.word) (omega arith) (sym c.observed_accepts.ensures ∙ c.if-observed_accepts.true))

pub loop-word-preserved : goal.loop-word-preserved
loop-word-preserved c =
    let a = c.args in
    let l = c.loop-word in
    l.invariant ∙ any-later a.domain.now l.word-index (type_of a.candidate.word) (omega arith) (sym c.observed_accepts.ensures ∙ c.if-observed_accepts.false)

pub returns : goal.returns
returns c =
    let a = c.args in
    let l = c.loop-word in
    sym (l.invariant ∙ any-end a.domain.now l.word-index (type_of a.candidate.word) (omega arith))
