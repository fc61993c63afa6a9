-- `put_field` meets its contract: a number has at most 20 digits.
use Rattle.std.proofs.Common.{arith}
use Rattle.lineout.specs.Laws.{decimal-short}
use Rattle.replaying.specs.ReportLaws.{field-put}
use Rattle.replaying.proofs.report.put_field.Goals as goal

pub put_decimal-requires : goal.put_decimal-requires
put_decimal-requires c =
    let p = c.requires in
    let d = decimal-short c.args.n (omega arith) in
    let a = c.put_byte-m.ensures.filled-is in
    let k = c.put_byte-m.auto.out in
    omega arith

pub returns : goal.returns
returns c =
    let p = c.requires in
    let d = decimal-short c.args.n (omega arith) in
    let byte = c.put_byte-m in
    let number = c.put_decimal in
    let e = byte.ensures.filled-is in
    let f = number.ensures.filled-is in
    (field-put c.args.n c.args.at _ _ c.args.out.now _ _ (omega arith) byte.ensures number.ensures, omega arith)
