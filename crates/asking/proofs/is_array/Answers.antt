-- `is_array` meets its contract: the links that begin with the root are the pairs that do.
use Rattle.std.specs.Prelude.{◌/◌, eqb}
use Rattle.std.proofs.Common.{rules, tests, ◌∙◌}
use Rattle.std.proofs.lemmas.Iterator.{YieldsList-from_slice}
use Rattle.std.proofs.lemmas.Iterator.Search.{any_from_yields_List}
use Rattle.asking.specs.Steps.{any-begins}
use Rattle.asking.proofs.is_array.Goals as goal

pub returns : goal.returns
returns c =
    let x = c.args in
    any_from_yields_List (λ l. eqb (l / 512) x.root) _ _ c.any.result c.any.ensures.ran (YieldsList-from_slice x.links.now cc) (λ l b q k. search (rules, tests))
    ∙ any-begins x.root x.links.now
