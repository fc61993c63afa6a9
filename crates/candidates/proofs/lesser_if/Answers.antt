-- `lesser_if` meets its contract.
use mathlib.Core.Path.{sym, ap, ◌∙◌}
use mathlib.Core.Bool.{Bool, cond}
use Rattle.ty.specs.Words.{type_of}
use Rattle.lattice.specs.Lattice.{lesser}
use Rattle.candidates.specs.Maybe.{maybe_type}
use Rattle.candidates.proofs.lesser_if.Goals as goal

pub returns-then-taken : goal.returns-then-taken
returns-then-taken c =
    let a = c.args in
    let r = c.lesser.ensures in
    (r.0, r.1 ∙ sym (ap (λ (b : Bool). cond b (lesser (type_of a.hint.word) (maybe_type a.best)) (maybe_type a.best)) c.if-taken.true))

pub returns : goal.returns
returns c =
    let a = c.args in
    (c.requires.1, sym (ap (λ (b : Bool). cond b (lesser (type_of a.hint.word) (maybe_type a.best)) (maybe_type a.best)) c.if-taken.false))
