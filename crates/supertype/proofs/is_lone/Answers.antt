-- `is_lone` meets its contract.
use mathlib.Core.Path.{ap, ◌∙◌}
use mathlib.Core.List.{List}
use Prim.Native.Nat.{ℕ}
use lib.Dec.{eqb}
use Rattle.sets.specs.Sets.{at, remove, first}
use Rattle.supertype.proofs.is_lone.Goals as goal

pub returns : goal.returns
returns c = ap (λ (n : ℕ). eqb n 1024)
    (c.lowest.ensures ∙ ap (λ (w : List ℕ). first (at w) 1024) (c.without-rest.ensures ∙ ap (remove c.args.s.words) c.lowest-least.ensures))
