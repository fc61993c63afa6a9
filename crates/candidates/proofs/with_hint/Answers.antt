-- `with_hint` meets its contract.
use mathlib.Core.Path.{ap, ◌∙◌}
use mathlib.Core.Bool.{Bool, cond}
use Rattle.ty.specs.Words.{type_of}
use Rattle.lattice.specs.Lattice.{lesser}
use Rattle.candidates.specs.Maybe.{maybe_type}
use Rattle.candidates.proofs.with_hint.Goals as goal

pub returns : goal.returns
returns c =
    let a = c.args in
    let r = c.lesser_if.ensures in
    (r.0, r.1 ∙ ap (λ (b : Bool). cond b (lesser (type_of a.hint.word) (maybe_type a.best)) (maybe_type a.best)) c.is_assignable_to_each-taken.ensures)
