-- `join_classes` meets its contract: there is always a supertype.
use mathlib.Core.Path.{ap, ◌∙◌}
use Prim.Native.Nat.{ℕ, ◌+◌, ◌^◌}
use native.Mathlib.Omega.{arith}
use Rattle.joins.specs.Cases.{supertype-lt, classes-word}
use Rattle.joins.proofs.join_classes.Goals as goal

pub object-requires : goal.object-requires
object-requires c =
    let a = c.args in
    let p = c.requires in
    let e = c.supertype-c.ensures in
    omega (arith, supertype-lt a.pairs.now a.marks.now a.t p.0 a.left a.right p.1 p.2)

pub returns : goal.returns
returns c =
    let a = c.args in
    let p = c.requires in
    c.object.ensures
    ∙ ap (λ (x : ℕ). 2 ^ 48 + x) c.supertype-c.ensures
    ∙ classes-word a.pairs.now a.marks.now a.t p.0 a.left a.right p.1 p.2
