-- `put_variables` meets its contract: the lines that are left are those from the next variable on.
use mathlib.Core.Path.{subst}
use mathlib.Core.List.{List}
use Prim.Native.Nat.{ℕ, ◌+◌}
use native.Mathlib.Omega.{arith}
use lib.ListN.{drop, get_or}
use Rattle.lineout.specs.Printed.{variable_line, variable_lines}
use Rattle.lineout.specs.Laws.{lines-step, lines-end, line-short, lines-short, Writing, writing-start, writing-more, writing-end}
use Rattle.lineout.proofs.put_variables.Goals as goal

pub loop-i-init : goal.loop-i-init
loop-i-init c = let a = c.args in (omega arith, writing-start (variable_lines 0 a.answers.now) a.filled a.out.now)

pub loop-i-preserved : goal.loop-i-preserved
loop-i-preserved c =
    let l = c.loop-i in
    let a = c.args in
    let p = c.requires in
    let v = c.put_variable-at in
    let w = get_or a.answers.now l.i 0 in
    let f = subst (λ (m : List ℕ). Writing (variable_lines 0 a.answers.now) m a.filled l.at a.out.now l.out) (lines-step l.i a.answers.now (omega arith)) l.invariant.1 in
    let n = lines-short 0 a.answers.now (omega arith) in
    let e = v.ensures.filled-is in
    let k = line-short l.i w (omega arith) in
    (omega arith, writing-more (variable_lines 0 a.answers.now) (variable_line l.i w) (variable_lines (l.i + 1) (drop (l.i + 1) a.answers.now)) a.filled l.at _ a.out.now l.out _ (omega arith) f v.ensures)

pub returns : goal.returns
returns c = let l = c.loop-i in let a = c.args in writing-end (variable_lines 0 a.answers.now) a.filled l.at a.out.now l.out (subst (λ (m : List ℕ). Writing (variable_lines 0 a.answers.now) m a.filled l.at a.out.now l.out) (lines-end l.i a.answers.now (omega arith)) l.invariant.1)
