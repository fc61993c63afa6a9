-- `is_hex` meets its contract: a line of whole pairs is hex where each byte is a digit.
use Rattle.std.proofs.Common.{rules, ◌∙◌}
use Rattle.std.proofs.lemmas.Iterator.{YieldsList-from_slice}
use Rattle.std.proofs.lemmas.Iterator.Search.{all_from_yields_List}
use borrow.Author.Tests.{tests}
use Rattle.hexline.specs.Hex.{digit}
use Rattle.hexline.specs.Laws.{is_digit, all-hex}
use Rattle.hexline.proofs.is_hex.Goals as goal

pub returns : goal.returns
returns c =
    let line = c.args.line.now in
    all_from_yields_List (λ b. is_digit (digit b)) _ _ c.all.result c.all.ensures.ran (YieldsList-from_slice line c.iter.ensures.rest) (λ x b q k. search (rules, tests))
    ∙ all-hex line c.requires
