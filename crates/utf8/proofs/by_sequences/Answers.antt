-- `by_sequences` meets its contract. The loop's invariant: what was passed and the valid prefix from i on make up the valid prefix from the start.
-- The measure is what is left.
use borrow.Author.Rules.{rules}
use mathlib.Core.Path.{refl, sym, ◌∙◌}
use native.Mathlib.Omega.{arith}
use Rattle.utf8.proofs.Part.{pass-in, pass-step, pass-stop, pass-end}
use Rattle.utf8.proofs.by_sequences.Goals as goal

pub loop-i-init : goal.loop-i-init
loop-i-init c = (c.requires.0, c.requires.1, refl)

pub returns-then-n-eq0 : goal.returns-then-n-eq0
returns-then-n-eq0 c =
    let a = c.args in
    let l = c.loop-i in
    sym (l.invariant.2 ∙ pass-stop a.s.now l.i a.to l.invariant.1 c.sequence_at-n.ensures c.if-n-eq0.true)

pub overflow_add-i : goal.overflow_add-i
overflow_add-i c =
    let a = c.args in
    let l = c.loop-i in
    let h = pass-in a.s.now l.i a.to l.invariant.1 l.invariant.0 c.sequence_at-n.ensures in
    omega arith

pub loop-i-preserved : goal.loop-i-preserved
loop-i-preserved c =
    let a = c.args in
    let l = c.loop-i in
    let e = c.sequence_at-n.ensures in (
      pass-in a.s.now l.i a.to l.invariant.1 l.invariant.0 e,
      l.invariant.1,
      l.invariant.2 ∙ pass-step a.s.now l.i a.to l.invariant.1 e c.if-n-eq0.false,
    )

pub returns : goal.returns
returns c =
    let a = c.args in
    let l = c.loop-i in
    sym (l.invariant.2 ∙ pass-end a.s.now l.i a.to l.invariant.1 (search rules))
