-- `put_number` meets its contract: letter, number, LF.
use native.Mathlib.Omega.{arith}
use Rattle.lineout.specs.Printed.{number_text}
use Rattle.lineout.specs.Laws.{number-short, line-one}
use Rattle.lineout.proofs.put_number.Goals as goal

pub put_byte-requires : goal.put_byte-requires
put_byte-requires c =
    let p = c.requires in
    let n = number-short c.args.n (omega arith) in
    let a = c.put_letter-a.ensures.filled-is in
    let b = c.put_number_or_dash-b.ensures.filled-is in
    let k = c.put_letter-a.auto.out in
    let l = c.put_number_or_dash-b.auto.out in
    omega arith

pub returns : goal.returns
returns c =
    let p = c.requires in
    let n = number-short c.args.n (omega arith) in
    line-one c.args.letter (number_text c.args.n) c.args.filled _ _ _ c.args.out.now _ _ _ (omega arith) c.put_letter-a.ensures c.put_number_or_dash-b.ensures c.put_byte.ensures
