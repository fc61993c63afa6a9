-- `put_refusal` meets its contract: letter and number, another number, LF.
use Rattle.std.proofs.Common.{arith}
use Rattle.lineout.specs.Laws.{decimal-short, heading-short, line-headed}
use Rattle.lineout.proofs.put_refusal.Goals as goal

pub put_decimal-b-requires : goal.put_decimal-b-requires
put_decimal-b-requires c =
    let p = c.requires in
    let d = heading-short 69 c.args.line (omega arith) in
    let e = decimal-short c.args.refusal (omega arith) in
    let a = c.put_heading-a.ensures.filled-is in
    let k = c.put_heading-a.auto.out in
    omega arith

pub put_byte-requires : goal.put_byte-requires
put_byte-requires c =
    let p = c.requires in
    let d = heading-short 69 c.args.line (omega arith) in
    let e = decimal-short c.args.refusal (omega arith) in
    let a = c.put_heading-a.ensures.filled-is in
    let b = c.put_decimal-b.ensures.filled-is in
    let k = c.put_heading-a.auto.out in
    let l = c.put_decimal-b.auto.out in
    omega arith

pub returns : goal.returns
returns c =
    let p = c.requires in
    let e = decimal-short c.args.refusal (omega arith) in
    line-headed 69 c.args.line _ _ _ _ _ _ _ _ _ (omega arith) (omega arith) c.put_heading-a.ensures c.put_decimal-b.ensures c.put_byte.ensures
