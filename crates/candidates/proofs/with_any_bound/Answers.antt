-- `with_any_bound` meets its contract: the hint is a legal type's word, or there is none.
use mathlib.Core.Path.{sym, ap, ◌∙◌, subst}
use mathlib.Core.List.{map}
use mathlib.Core.Option.{Option}
use native.Mathlib.Omega.{arith}
use Rattle.ty.specs.Types.{ArgType}
use Rattle.ty.specs.Words.{type_of}
use Rattle.lattice.specs.Lattice.{candidate}
use Rattle.lattice.specs.World.{world_of}
use Rattle.candidates.specs.Maybe.{LegalMaybe, maybe_type, hint-type, hint-word}
use Rattle.candidates.specs.Groups.{best-along}
use Rattle.candidates.proofs.with_any_bound.Goals as goal

pub with_any_hint-requires : goal.with_any_hint-requires
with_any_hint-requires c =
    let a = c.args in
    (c.requires.0, c.requires.2, subst LegalMaybe c.in-Some.is (hint-word a.t.object a.bound.word c.concrete_hint.result c.requires.1 (omega arith) c.requires.3 c.concrete_hint.ensures), c.requires.4)

pub returns-in-Some : goal.returns-in-Some
returns-in-Some c =
    let a = c.args in
    let b = c.with_any_hint.result in
    let w = world_of a.pairs.now a.marks.now a.t in
    best-along w (map type_of a.upper.now) b.best b.group.head b.group.rest b.group.classes.words
    c.with_any_hint.ensures
    (ap (λ (o : Option ArgType). candidate w (map type_of a.upper.now) o (maybe_type a.b.best)) (ap maybe_type (sym c.in-Some.is) ∙ hint-type a.t.object a.bound.word c.concrete_hint.result c.requires.1 (omega (arith, c.well_formed.1.1.1.1.0)) c.requires.3 c.concrete_hint.ensures))

pub returns-in-None : goal.returns-in-None
returns-in-None c =
    let a = c.args in
    let w = world_of a.pairs.now a.marks.now a.t in
    best-along w (map type_of a.upper.now) a.b.best a.b.group.head a.b.group.rest a.b.group.classes.words
    c.requires.4
    (ap (λ (o : Option ArgType). candidate w (map type_of a.upper.now) o (maybe_type a.b.best)) (ap maybe_type (sym c.in-None.is) ∙ hint-type a.t.object a.bound.word c.concrete_hint.result c.requires.1 (omega arith) c.requires.3 c.concrete_hint.ensures))
