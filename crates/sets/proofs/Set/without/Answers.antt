-- `Set::without` meets its contract: `1 << k` is 2 ^ k where k < 64, and a number past the end changes nothing.
use mathlib.Core.Path.{sym, ap, ◌∙◌}
use Prim.Native.Nat.{ℕ, ◌/◌, ◌%◌, ◌^◌}
use native.Mathlib.Nat.{one-mul}
use native.Mathlib.Omega.{arith}
use lib.Dec.{lit<}
use lib.Pow.{shl_exact}
use lib.ListN.{get_or, set}
use Rattle.sets.specs.Sets.{clear, remove}
use Rattle.sets.specs.Laws.{remove-past}
use Rattle.sets.proofs.Good.{array-length}
use Rattle.sets.proofs.Set.without.Goals as goal

pub returns-then-i-lt1024 : goal.returns-then-i-lt1024
unfolding clear remove
returns-then-i-lt1024 c =
    let a = c.args in
    let k : ℕ = a.i % 64 in
    ap (λ (x : ℕ). set a.self.words (a.i / 64) (clear (get_or a.self.words (a.i / 64) 0) x))
    (shl_exact 1 k 64 (lit< tt) (omega arith) ∙ one-mul (2 ^ k))

pub returns-else-i-lt1024 : goal.returns-else-i-lt1024
returns-else-i-lt1024 c =
    let l = array-length 16 c.args.self.words _ c.well_formed.0.1.1.0 in
    sym (remove-past c.args.self.words c.args.i (omega arith))
