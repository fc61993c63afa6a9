-- `Set::union` meets its contract, word by word.
use Rattle.std.proofs.Common.{refl, rules, arith, get_or}
use lib.Bits.{bit_or}
use Rattle.sets.specs.Sets.{unite}
use Rattle.sets.proofs.Good.{array-length}
use Rattle.sets.proofs.Loops.{pairwise-all, made-by}
use Rattle.sets.proofs.Set.union.Goals as goal

pub returns : goal.returns
unfolding unite
returns c =
    let a = c.args.self.words in
    let b = c.args.other.words in
    let w = c.well_formed in
    let made = c.from_fn.ensures.items in
    pairwise-all bit_or a b c.from_fn.result refl (array-length 16 a _ w.0.1.1.0) (array-length 16 b _ w.1.0.1.1.0) made.long
    (λ i l. made-by _ (λ k. bit_or (get_or a k 0) (get_or b k 0)) _ (λ k y q called. search rules) c.from_fn.result 0 16 made.each i (omega arith) (omega arith))
