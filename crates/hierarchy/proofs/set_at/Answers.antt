-- `set_at` meets its contract.
use native.Mathlib.Omega.{arith}
use mathlib.Core.Path.{◌≡◌, ap, ◌∙◌}
use Prim.Native.Nat.{ℕ, ◌+◌, ◌-◌, ◌*◌}
use lib.ListN.{take, drop}
use Rattle.tables.specs.Table.{mark}
use Rattle.hierarchy.proofs.set_at.Goals as goal

pub returns : goal.returns
unfolding mark
returns c =
    let a = c.args in
    let e : 16 * a.k + 16 - 16 * a.k ≡ 16 = omega arith in
    c.copy_from_slice.ensures.after ∙ ap (λ (n : ℕ). take n (drop (16 * a.k) a.words.now)) e
