-- `all_wide` meets its contract: what a test of each digit says of the list.
use Rattle.std.proofs.Common.{◌/◌, ◌^◌, ◌∙◌, ap, refl, sym, rules, arith}
use borrow.Author.Tests.{tests}
use Rattle.std.proofs.lemmas.Iterator.{YieldsList-from_range}
use Rattle.std.proofs.lemmas.Iterator.Search.{all_from_yields_List}
use Rattle.ty.specs.Types.{wide_category, all_wide}
use Rattle.ty.specs.Steps.{rest-all}
use Rattle.ty.proofs.Ranges.{digit_of, all-wide}
use Rattle.ty.proofs.all_wide.Goals as goal

pub returns : goal.returns
returns c =
    let x = c.args.load in
    let n = c.min-n in
    all_from_yields_List (λ j. wide_category (digit_of x j)) _ _ c.all.result c.all.ensures.ran (YieldsList-from_range 0 n.result n.result refl (omega arith)) (λ i b q k. search (rules, tests))
    ∙ all-wide x (x / 2 ^ 44) 0 n.result (let e = n.ensures in omega arith)
    ∙ sym (ap all_wide (rest-all x))
