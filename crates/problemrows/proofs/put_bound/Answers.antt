-- `put_bound` meets its contract: the key of the bound is what is put.
use mathlib.Core.Path.{sym, ap}
use Prim.Native.Nat.{ℕ}
use lib.ListN.{take}
use Rattle.problemrows.specs.ProblemRows.{entry_row}
use Rattle.problemrows.specs.Laws.{adds-by}
use Rattle.problemrows.proofs.put_bound.Goals as goal

pub returns : goal.returns
returns c =
    let a = c.args in
    adds-by (ap (λ (x : ℕ). entry_row 4096 x (take a.n a.bounds.now)) (sym c.key_of-x.ensures)) c.put_entry.ensures
