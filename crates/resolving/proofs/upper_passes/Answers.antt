-- `upper_passes` meets its contract: three tests in a row: exact bounds, lower bounds, domain.
use mathlib.Core.Path.{sym, ◌∙◌}
use mathlib.Core.List.{map}
use Rattle.ty.specs.Words.{type_of}
use Rattle.lattice.specs.Lattice.{domain_accepts}
use Rattle.lattice.specs.World.{world_of}
use Rattle.solving.specs.Resolve.{all_produce}
use Rattle.resolving.specs.Laws.{legal-words, three-yes, three-first, three-second}
use Rattle.resolving.proofs.upper_passes.Goals as goal

pub domain_accepts-requires : goal.domain_accepts-requires
domain_accepts-requires c =
    let a = c.args in
    let p = c.requires in
    (legal-words a.t p.0.1 a.domain.now p.3, p.4)

pub returns-then-all_produce-2 : goal.returns-then-all_produce-2
returns-then-all_produce-2 c =
    let a = c.args in
    let w = world_of a.pairs.now a.marks.now a.t in
    three-yes (all_produce w (map type_of a.exact.now) (type_of a.candidate.word)) (all_produce w (map type_of a.lower.now) (type_of a.candidate.word)) (domain_accepts (map type_of a.domain.now) (type_of a.candidate.word)) c.domain_accepts.result (sym c.all_produce.ensures ∙ c.if-all_produce.true) (sym c.all_produce-then-all_produce.ensures ∙ c.if-all_produce-2.true) c.domain_accepts.ensures

pub returns-then-all_produce : goal.returns-then-all_produce
returns-then-all_produce c =
    let a = c.args in
    let w = world_of a.pairs.now a.marks.now a.t in
    three-second (all_produce w (map type_of a.exact.now) (type_of a.candidate.word)) (all_produce w (map type_of a.lower.now) (type_of a.candidate.word)) (domain_accepts (map type_of a.domain.now) (type_of a.candidate.word)) (sym c.all_produce.ensures ∙ c.if-all_produce.true) (sym c.all_produce-then-all_produce.ensures ∙ c.if-all_produce-2.false)

pub returns : goal.returns
returns c =
    let a = c.args in
    let w = world_of a.pairs.now a.marks.now a.t in
    three-first (all_produce w (map type_of a.exact.now) (type_of a.candidate.word)) (all_produce w (map type_of a.lower.now) (type_of a.candidate.word)) (domain_accepts (map type_of a.domain.now) (type_of a.candidate.word)) (sym c.all_produce.ensures ∙ c.if-all_produce.false)
