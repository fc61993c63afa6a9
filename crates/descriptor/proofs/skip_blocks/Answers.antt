-- The passing of blocks meets its contract: the search from `from` is the search from `i`, past each block without a ';'.
use borrow.Author.Tests.{ltb-false}
use mathlib.Core.Path.{sym, ◌∙◌}
use native.Mathlib.Omega.{arith}
use lib.ListN.{drop}
use Rattle.descriptor.specs.Read.{index_of}
use Rattle.descriptor.specs.Steps.{index-past}
use Rattle.descriptor.proofs.skip_blocks.Goals as goal

pub loop-i-preserved : goal.loop-i-preserved
loop-i-preserved c =
    let s = c.args.s.now in
    let l = c.loop-i in
    let past = ltb-false (index_of 59 (drop l.i s)) 8 (sym c.ends_in_block.ensures ∙ c.if-ends_in_block.false) in
    (omega arith, l.invariant.1 ∙ index-past 59 s l.i 8 past)
