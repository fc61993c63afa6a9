-- `put_numbers` meets its contract: the numbers that are left are those of the bytes from the next pair on.
use mathlib.Core.Path.{sym, ap, ◌∙◌, subst}
use mathlib.Core.List.{List, ◌∷◌}
use Prim.Native.Nat.{ℕ, ◌+◌, ◌*◌}
use native.Mathlib.Omega.{arith}
use lib.ListN.{drop}
use Rattle.hexline.specs.Hex.{numbers_in}
use Rattle.hexline.specs.Laws.{numbers-step, numbers-end, numbers-length, Filling, fill-start, fill-step, fill-end}
use Rattle.hexline.proofs.put_numbers.Goals as goal

pub loop-k-init : goal.loop-k-init
loop-k-init c = let a = c.args in fill-start (numbers_in a.bytes.now) a.numbers.now

pub loop-k-preserved : goal.loop-k-preserved
loop-k-preserved c =
    let l = c.loop-k in
    let a = c.args in
    let q = numbers-step a.bytes.now l.k (omega arith) in
    let f = subst (λ (m : List ℕ). Filling (numbers_in a.bytes.now) m a.numbers.now l.numbers l.k) (q ∙ ap (λ (x : ℕ). x ∷ numbers_in (drop (2 * (l.k + 1)) a.bytes.now)) (sym c.number_at.ensures.0)) l.invariant in
    fill-step (numbers_in a.bytes.now) a.numbers.now l.numbers l.k _ _ (omega arith) f

pub returns : goal.returns
returns c =
    let l = c.loop-k in
    let a = c.args in
    let n = numbers-length a.bytes.now c.requires.0 in (
      omega arith,
      fill-end (numbers_in a.bytes.now) a.numbers.now l.numbers l.k (omega arith)
          (subst (λ (m : List ℕ). Filling (numbers_in a.bytes.now) m a.numbers.now l.numbers l.k) (numbers-end a.bytes.now l.k (omega arith)) l.invariant),
    )
