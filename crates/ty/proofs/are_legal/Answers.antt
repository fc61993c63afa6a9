-- `are_legal` meets its contract: the test of each word.
use Rattle.std.proofs.Common.{◌∙◌, rules}
use borrow.Author.Tests.{tests}
use Rattle.std.proofs.lemmas.Iterator.{YieldsList-from_slice}
use Rattle.std.proofs.lemmas.Iterator.Search.{all_from_yields_List}
use Rattle.ty.specs.Words.{legal_word}
use Rattle.ty.proofs.Ranges.{all-legal}
use Rattle.ty.proofs.are_legal.Goals as goal

pub returns : goal.returns
returns c =
    let a = c.args in
    all_from_yields_List (λ w. legal_word a.names w) _ _ c.all.result c.all.ensures.ran (YieldsList-from_slice a.words.now c.iter.ensures.rest) (λ x b q k. search (rules, tests))
    ∙ all-legal a.names a.words.now
