-- `compare_at` meets its contract.
use mathlib.Core.Path.{ap, ◌∙◌}
use mathlib.Core.List.{List}
use Prim.Native.Nat.{ℕ}
use Rattle.order.specs.Compare.{compare_lists}
use Rattle.names.specs.Table.{part-is}
use Rattle.names.proofs.compare_at.Goals as goal

pub returns : goal.returns
returns c =
    let a = c.args in
    c.compare_names.ensures ∙ ap (λ (l : List ℕ). compare_lists l a.key.now) (part-is a.names.now a.at a.len)
