-- `fallback_passes` meets its contract: two tests in a row.
use mathlib.Core.Path.{sym, ◌∙◌}
use mathlib.Core.List.{map}
use Rattle.ty.specs.Words.{type_of}
use Rattle.lattice.specs.Lattice.{domain_accepts, assignable_to_all}
use Rattle.lattice.specs.World.{world_of}
use Rattle.resolving.specs.Laws.{legal-words, both-yes, both-no}
use Rattle.resolving.proofs.fallback_passes.Goals as goal

pub is_assignable_to_all-requires : goal.is_assignable_to_all-requires
is_assignable_to_all-requires c =
    let a = c.args in
    let p = c.requires in
    (p.0.0, p.1, legal-words a.t p.0.1 a.upper.now p.2)

pub domain_accepts-requires : goal.domain_accepts-requires
domain_accepts-requires c =
    let a = c.args in
    let p = c.requires in
    (legal-words a.t p.0.1 a.domain.now p.3, p.1)

pub returns-then-is_assignable_to_all : goal.returns-then-is_assignable_to_all
returns-then-is_assignable_to_all c =
    let a = c.args in
    let ty = type_of a.ty.word in
    both-yes (assignable_to_all (world_of a.pairs.now a.marks.now a.t) ty (map type_of a.upper.now)) (domain_accepts (map type_of a.domain.now) ty) c.domain_accepts.result (sym c.is_assignable_to_all.ensures ∙ c.if-is_assignable_to_all.true) c.domain_accepts.ensures

pub returns : goal.returns
returns c =
    let a = c.args in
    let ty = type_of a.ty.word in
    both-no (assignable_to_all (world_of a.pairs.now a.marks.now a.t) ty (map type_of a.upper.now)) (domain_accepts (map type_of a.domain.now) ty) (sym c.is_assignable_to_all.ensures ∙ c.if-is_assignable_to_all.false)
