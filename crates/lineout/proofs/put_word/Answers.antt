-- `put_word` meets its contract: the digits that are left are those from the next on.
use mathlib.Core.Path.{sym, ap, ◌∙◌, subst}
use mathlib.Core.List.{List, ◌∷◌}
use Prim.Native.Nat.{ℕ, ◌+◌, ◌-◌}
use native.Mathlib.Omega.{arith}
use Rattle.lineout.specs.Printed.{hex_digits}
use Rattle.lineout.specs.Laws.{hex-step, hex-end, hex-length, Writing, writing-start, writing-step, writing-end}
use Rattle.lineout.proofs.put_word.Goals as goal

pub loop-k-init : goal.loop-k-init
loop-k-init c = let a = c.args in (omega arith, writing-start (hex_digits 16 a.w) a.filled a.out.now)

pub loop-k-preserved : goal.loop-k-preserved
loop-k-preserved c =
    let l = c.loop-k in
    let a = c.args in
    let p = c.requires in
    let e = hex-step a.w l.k (omega arith) in
    let f = subst (λ (m : List ℕ). Writing (hex_digits 16 a.w) m a.filled l.at a.out.now l.out) (e ∙ ap (λ (d : ℕ). d ∷ hex_digits (16 - (l.k + 1)) a.w) (sym c.hex_digit.ensures)) l.invariant.1 in
    let b = c.put_byte-at in
    let n = b.ensures.filled-is in
    (omega arith, writing-step (hex_digits 16 a.w) _ _ a.filled l.at _ a.out.now l.out _ (hex-length 16 a.w) (omega arith) f b.ensures)

pub returns : goal.returns
returns c = let l = c.loop-k in let a = c.args in writing-end (hex_digits 16 a.w) a.filled l.at a.out.now l.out (subst (λ (m : List ℕ). Writing (hex_digits 16 a.w) m a.filled l.at a.out.now l.out) (hex-end a.w l.k (omega arith)) l.invariant.1)
