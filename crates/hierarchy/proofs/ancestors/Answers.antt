-- `ancestors` meets its contract.
use mathlib.Core.Path.{ap, ◌∙◌}
use mathlib.Core.List.{List}
use Prim.Native.Nat.{ℕ}
use Rattle.sets.specs.Sets.{insert}
use Rattle.view.specs.View.{ancestors}
use Rattle.hierarchy.proofs.ancestors.Goals as goal

pub returns : goal.returns
unfolding ancestors
returns c = c.with.ensures ∙ ap (λ (s : List ℕ). insert s c.args.t.object) c.reached-r.ensures
