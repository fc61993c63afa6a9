-- `hits` meets its contract.
use mathlib.Core.Path.{sym, ap, ◌∙◌}
use mathlib.Core.Bool.{Bool}
use mathlib.Core.List.{List}
use Prim.Native.Nat.{ℕ}
use Rattle.sets.specs.Sets.{intersect}
use Rattle.supertype.specs.Near.{of_two}
use Rattle.supertype.proofs.hits.Goals as goal

pub returns-then-both : goal.returns-then-both
returns-then-both c =
    let a = c.args in
    c.intersection.ensures
    ∙ ap (λ (w : List ℕ). intersect w a.s.words) (c.intersection-common.ensures ∙ ap (λ (b : Bool). of_two b a.left.words a.right.words) (sym c.if-both.true))

pub returns : goal.returns
returns c =
    let a = c.args in
    c.intersection-2.ensures
    ∙ ap (λ (w : List ℕ). intersect w a.s.words) (c.union-all.ensures ∙ ap (λ (b : Bool). of_two b a.left.words a.right.words) (sym c.if-both.false))
