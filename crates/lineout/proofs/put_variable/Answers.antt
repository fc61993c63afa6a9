-- `put_variable` meets its contract: letter and number, word, LF.
use Rattle.std.proofs.Common.{arith}
use Rattle.lineout.specs.Laws.{word-short, heading-short, line-headed}
use Rattle.lineout.proofs.put_variable.Goals as goal

pub put_word_or_dash-b-requires : goal.put_word_or_dash-b-requires
put_word_or_dash-b-requires c =
    let p = c.requires in
    let d = heading-short 86 c.args.i (omega arith) in
    let a = c.put_heading-a.ensures.filled-is in
    let k = c.put_heading-a.auto.out in
    omega arith

pub put_byte-requires : goal.put_byte-requires
put_byte-requires c =
    let p = c.requires in
    let d = heading-short 86 c.args.i (omega arith) in
    let e = word-short c.args.w in
    let a = c.put_heading-a.ensures.filled-is in
    let b = c.put_word_or_dash-b.ensures.filled-is in
    let k = c.put_heading-a.auto.out in
    let l = c.put_word_or_dash-b.auto.out in
    omega arith

pub returns : goal.returns
returns c =
    let p = c.requires in
    let e = word-short c.args.w in
    line-headed 86 c.args.i _ _ _ _ _ _ _ _ _ (omega arith) (omega arith) c.put_heading-a.ensures c.put_word_or_dash-b.ensures c.put_byte.ensures
