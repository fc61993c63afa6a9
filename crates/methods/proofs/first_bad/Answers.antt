-- Each way out is a case of `first_bad`.
use mathlib.Core.Path.{ap, ◌∙◌}
use borrow.Author.Tests.{not-true, not-false}
use Rattle.descriptor.specs.Read.{read}
use Rattle.methods.specs.Strict.{refused_at, bad-kept, bad-before, bad-here}
use Rattle.methods.proofs.first_bad.Goals as goal

pub returns-then-not-strict : goal.returns-then-not-strict
returns-then-not-strict c = bad-kept c.args.s.now c.args.strict c.args.bad (read c.args.t) (not-true _ c.if-not-strict.true-raw)

pub returns-then-bad-eq0 : goal.returns-then-bad-eq0
returns-then-bad-eq0 c = c.refused_at.ensures ∙ ap refused_at c.judged-j.ensures ∙ bad-here c.args.s.now c.args.strict c.args.bad (read c.args.t) (not-false _ c.if-not-strict.false-raw) c.if-bad-eq0.true

pub returns : goal.returns
returns c = bad-before c.args.s.now c.args.strict c.args.bad (read c.args.t) (not-false _ c.if-not-strict.false-raw) c.if-bad-eq0.false
