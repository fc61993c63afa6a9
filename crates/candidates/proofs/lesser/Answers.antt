-- `lesser` meets its contract.
use mathlib.Core.Path.{sym, ap, ◌∙◌, subst}
use Rattle.ty.specs.Answers.{MaybeType}
use Rattle.ty.specs.Words.{type_of}
use Rattle.lattice.specs.Lattice.{lesser}
use Rattle.candidates.specs.Maybe.{LegalMaybe, maybe_type}
use Rattle.candidates.proofs.lesser.Goals as goal

pub lesser_of-requires : goal.lesser_of-requires
lesser_of-requires c =
    let p = c.requires in
    (p.0, subst LegalMaybe c.in-Some.is p.1)

pub returns-in-Some : goal.returns-in-Some
returns-in-Some c =
    let t = type_of c.args.t.word in
    let r = c.lesser_of.ensures in
    (r.0, r.1 ∙ ap (λ (m : MaybeType). lesser t (maybe_type m)) (sym c.in-Some.is))

pub returns-in-None : goal.returns-in-None
returns-in-None c = (c.requires.0, ap (λ (m : MaybeType). lesser (type_of c.args.t.word) (maybe_type m)) (sym c.in-None.is))
