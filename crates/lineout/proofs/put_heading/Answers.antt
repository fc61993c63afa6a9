-- `put_heading` meets its contract: letter, number, space.
use Rattle.std.proofs.Common.{arith}
use Rattle.lineout.specs.Laws.{decimal-short, heading-put}
use Rattle.lineout.proofs.put_heading.Goals as goal

pub put_byte-requires : goal.put_byte-requires
put_byte-requires c =
    let p = c.requires in
    let d = decimal-short c.args.n (omega arith) in
    let a = c.put_letter-a.ensures.filled-is in
    let b = c.put_decimal-b.ensures.filled-is in
    let k = c.put_letter-a.auto.out in
    let l = c.put_decimal-b.auto.out in
    omega arith

pub put_decimal-b-requires : goal.put_decimal-b-requires
put_decimal-b-requires c =
    let p = c.requires in
    let d = decimal-short c.args.n (omega arith) in
    let a = c.put_letter-a.ensures.filled-is in
    let k = c.put_letter-a.auto.out in
    omega arith

pub returns : goal.returns
returns c =
    let p = c.requires in
    let d = decimal-short c.args.n (omega arith) in
    heading-put c.args.letter c.args.n _ _ _ _ _ _ _ _ (omega arith) c.put_letter-a.ensures c.put_decimal-b.ensures c.put_byte.ensures
