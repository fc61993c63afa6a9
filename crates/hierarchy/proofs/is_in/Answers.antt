-- `is_in` meets its contract: it reads the digit of one word.
use native.Mathlib.Omega.{arith}
use mathlib.Core.Path.{sym, ap}
use Prim.Native.Nat.{ℕ}
use lib.Dec.{eqb}
use Rattle.sets.specs.Sets.{bit, member}
use Rattle.tables.specs.Table.{mark-at}
use Rattle.hierarchy.proofs.is_in.Goals as goal

pub returns : goal.returns
unfolding member bit
returns c =
    let a = c.args in
    ap (λ (n : ℕ). eqb n 1) (sym (mark-at a.words.now a.k a.c (omega arith)))
