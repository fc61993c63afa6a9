-- `all_produce` meets its contract: each word is asked as the bound that is produced.
use Rattle.std.specs.Prelude.{get_or}
use Rattle.std.proofs.Common.{rules, tests, sym, ◌∙◌, subst}
use Rattle.std.proofs.lemmas.List.{get_or_default}
use Rattle.std.proofs.lemmas.Iterator.{YieldsList-from_slice}
use Rattle.std.proofs.lemmas.Iterator.Adapters.{serves_from_places}
use Rattle.std.proofs.lemmas.Iterator.Search.{all_from_yields_List}
use Rattle.ty.specs.Words.{Legal, type_of}
use Rattle.lattice.specs.Lattice.{producer_bound_compatible}
use Rattle.lattice.specs.World.{world_of}
use Rattle.resolving.specs.Laws.{legal-word, list-produce}
use Rattle.resolving.proofs.all_produce.Goals as goal

pub all-requires-clause-callable : goal.all-requires-clause-callable
all-requires-clause-callable c =
    let a = c.args in
    let p = c.requires in
    serves_from_places (YieldsList-from_slice a.bounds.now cc) (λ x q k. search (rules, tests)) (λ x k l e.
    let word : Legal x.now = subst Legal (get_or_default a.bounds.now k 0 x.now l ∙ sym e) (legal-word a.t p.0.1 (get_or a.bounds.now k 0) (p.1 k l)) in
    search rules)

pub returns : goal.returns
returns c =
    let a = c.args in
    all_from_yields_List (λ x. producer_bound_compatible (world_of a.pairs.now a.marks.now a.t) (type_of x) (type_of a.candidate.word)) _ _ c.all.result c.all.ensures.ran (YieldsList-from_slice a.bounds.now cc) (λ x b q k. search (rules, tests))
    ∙ list-produce (world_of a.pairs.now a.marks.now a.t) (type_of a.candidate.word) a.bounds.now
