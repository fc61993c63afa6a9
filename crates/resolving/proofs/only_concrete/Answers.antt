-- `only_concrete` meets its contract: a word is kept as it is, or not at all.
use mathlib.Core.Path.{sym, ap, ◌∙◌, subst}
use Rattle.candidates.specs.Maybe.{LegalMaybe, maybe_type}
use Rattle.resolving.specs.Laws.{concrete-is, kept-legal}
use Rattle.resolving.proofs.only_concrete.Goals as goal

pub returns-in-Some : goal.returns-in-Some
returns-in-Some c =
    let a = c.args in
    let u = c.in-Some.u in
    let e = c.in-Some.is in
    let b = c.is_concrete.result in
    (subst LegalMaybe (sym c.kept.ensures) (kept-legal a.t u e b c.requires), ap maybe_type c.kept.ensures ∙ concrete-is a.t u e b c.is_concrete.ensures)
