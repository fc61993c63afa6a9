-- `is_zero` meets its contract: what was gathered of the first words is zero only where they are.
use Rattle.std.proofs.Common.{arith}
use borrow.Author.Tests.{eqb-true}
use Rattle.clearing.proofs.Steps.{gathered-more, gathered-all}
use Rattle.clearing.proofs.is_zero.Goals as goal

pub loop-word-preserved : goal.loop-word-preserved
loop-word-preserved c =
    let l = c.loop-word in
    gathered-more c.args.words.now l.any l.word-index l.invariant

pub returns : goal.returns
returns c =
    λ e.
    let l = c.loop-word in
    gathered-all c.args.words.now l.any l.word-index (omega arith) l.invariant (eqb-true l.any 0 e)
