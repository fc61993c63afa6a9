-- `compare_types` meets its contract: what the comparison of the ranks finds is the order of the types.
use mathlib.Core.Path.{ap₂, ◌∙◌}
use native.Mathlib.Omega.{arith}
use Rattle.order.specs.Laws.{numbers-cmp}
use Rattle.order.specs.Compare.{compare_numbers}
use Rattle.ty.specs.Words.{type_of}
use Rattle.ty.specs.Round.{legal-of-word}
use Rattle.keys.specs.Laws.{rank-order}
use Rattle.keys.proofs.compare_types.Goals as goal

pub returns : goal.returns
returns c =
    let v = c.args.a.word in
    let w = c.args.b.word in
    c.cmp.ensures
    ∙ numbers-cmp c.rank_of.result c.rank_of-2.result
    ∙ ap₂ compare_numbers c.rank_of.ensures c.rank_of-2.ensures
    ∙ rank-order (type_of v) (type_of w) (legal-of-word 1024 v (omega arith) c.requires.0) (legal-of-word 1024 w (omega arith) c.requires.1)
