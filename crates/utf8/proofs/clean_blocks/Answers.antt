-- `clean_blocks` meets its contract: each block goes on from what is clean, and the last one begins within it.
use borrow.Author.Tests.{eqb-true}
use mathlib.Core.Path.{sym, ◌∙◌}
use mathlib.Core.Bool.{false≢true}
use Prim.Native.Nat.{◌+◌, ◌-◌}
use native.Mathlib.Omega.{arith}
use Rattle.utf8.specs.Seams.{faults, clean-on}
use Rattle.utf8.proofs.clean_blocks.Goals as goal

pub loop-i-init : goal.loop-i-init
loop-i-init c = (omega arith, omega arith, c.requires.0, c.requires.1, λ p l h. absurd (omega arith))

pub loop-i-preserved : goal.loop-i-preserved
loop-i-preserved c =
    let a = c.args in
    let l = c.loop-i in
    let e = eqb-true (faults a.s.now l.i 16) 0 (sym c.clean_block.ensures ∙ c.if-clean_block.true) in
    (omega arith, omega arith, l.invariant.2, l.invariant.3, clean-on a.s.now a.from l.i l.i (l.i + 16) 16 l.invariant.4 e (omega arith) (omega arith))

pub returns-else-clean_block : goal.returns-else-clean_block
returns-else-clean_block c h = absurd (false≢true h)

pub returns : goal.returns
returns c h =
    let a = c.args in
    let l = c.loop-i in
    let e = eqb-true (faults a.s.now (a.to - 18) 16) 0 (sym c.clean_block-2.ensures ∙ h) in
    clean-on a.s.now a.from l.i (a.to - 18) (a.to - 2) 16 l.invariant.4 e (omega arith) (omega arith)
