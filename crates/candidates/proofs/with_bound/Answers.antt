-- `with_bound` meets its contract: the hint is a legal type's word, or there is none.
use mathlib.Core.Path.{sym, ap, ◌∙◌, subst}
use mathlib.Core.List.{map}
use mathlib.Core.Option.{Option}
use native.Mathlib.Omega.{arith}
use Rattle.ty.specs.Types.{ArgType}
use Rattle.ty.specs.Words.{type_of}
use Rattle.lattice.specs.Lattice.{candidate}
use Rattle.lattice.specs.World.{world_of}
use Rattle.candidates.specs.Maybe.{LegalMaybe, maybe_type, hint-type, hint-word}
use Rattle.candidates.proofs.with_bound.Goals as goal

pub with_hint-requires : goal.with_hint-requires
with_hint-requires c =
    let a = c.args in
    (c.requires.0, c.requires.2, subst LegalMaybe c.in-Some.is (hint-word a.t.object a.bound.word c.concrete_hint.result c.requires.1 (omega arith) c.requires.3 c.concrete_hint.ensures), c.requires.4)

pub returns-in-Some : goal.returns-in-Some
returns-in-Some c =
    let a = c.args in
    let r = c.with_hint.ensures in
    (r.0, r.1 ∙ ap (λ (o : Option ArgType). candidate (world_of a.pairs.now a.marks.now a.t) (map type_of a.upper.now) o (maybe_type a.best)) (ap maybe_type (sym c.in-Some.is) ∙ hint-type a.t.object a.bound.word c.concrete_hint.result c.requires.1 (omega arith) c.requires.3 c.concrete_hint.ensures))

pub returns-in-None : goal.returns-in-None
returns-in-None c =
    let a = c.args in
    (c.requires.4, ap (λ (o : Option ArgType). candidate (world_of a.pairs.now a.marks.now a.t) (map type_of a.upper.now) o (maybe_type a.best)) (ap maybe_type (sym c.in-None.is) ∙ hint-type a.t.object a.bound.word c.concrete_hint.result c.requires.1 (omega arith) c.requires.3 c.concrete_hint.ensures))
