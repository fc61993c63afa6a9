-- The search for a ';' meets its contract: what is left of the search from `from` is the search from `i`.
use mathlib.Core.Path.{sym, ◌∙◌}
use native.Mathlib.Omega.{arith}
use Rattle.descriptor.specs.Steps.{index-end, index-here, index-later}
use Rattle.descriptor.proofs.find_end.Goals as goal

pub loop-i-init : goal.loop-i-init
loop-i-init c = c.skip_blocks-i.ensures

pub returns-then-s-i-eq59 : goal.returns-then-s-i-eq59
returns-then-s-i-eq59 c =
    let l = c.loop-i in
    sym (l.invariant.1 ∙ index-here 59 c.args.s.now l.i (omega arith) c.if-s-i-eq59.true)

pub loop-i-preserved : goal.loop-i-preserved
loop-i-preserved c =
    let l = c.loop-i in
    (omega arith, l.invariant.1 ∙ index-later 59 c.args.s.now l.i (omega arith) c.if-s-i-eq59.false)

pub returns : goal.returns
returns c =
    let l = c.loop-i in
    sym (l.invariant.1 ∙ index-end 59 c.args.s.now l.i (omega arith))
