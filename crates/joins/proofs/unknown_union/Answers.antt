-- `unknown_union` meets its contract: of the eleven categories those that are in either set.
use mathlib.Core.Path.{ap, ◌∙◌}
use Prim.Native.Nat.{ℕ, ◌+◌, ◌*◌, ◌^◌}
use Rattle.ty.specs.Words.{type_of}
use Rattle.joins.specs.Lists.{union-word}
use Rattle.joins.proofs.unknown_union.Goals as goal

pub returns : goal.returns
returns c =
    let a = c.args in
    ap (λ (x : ℕ). 2 * 2 ^ 48 + x) c.keep_members-load.ensures.0
    ∙ union-word (type_of a.left.word) (type_of a.right.word) _ _ c.categories.ensures c.categories-2.ensures
