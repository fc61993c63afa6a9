-- Each way out is a step of the digits: one digit, or those of a tenth and then the last.
use Rattle.std.proofs.Common.{ℕ, ◌/◌, ◌<◌, [], ◌∷◌, ◌++◌, length, sym, ap, ◌∙◌, arith}
use Rattle.lineout.specs.Printed.{decimal}
use Rattle.lineout.specs.Laws.{decimal-small, decimal-more, decimal-longer, puts-then, puts-as}
use Rattle.lineout.proofs.+put_decimal.Goals as goal

pub put_byte-requires : goal.put_byte-requires
put_byte-requires t c = let e = ap length (decimal-small c.args.n (omega arith)) in omega arith

pub returns-then-n-lt10 : goal.returns-then-n-lt10
returns-then-n-lt10 t c = puts-as _ _ _ _ _ _ (ap (λ (d : ℕ). d ∷ []) c.digit.ensures ∙ sym (decimal-small c.args.n (omega arith))) c.put_byte.ensures

pub put_decimal-m-requires : goal.put_decimal-m-requires
put_decimal-m-requires t c =
    let e = decimal-longer c.args.n (omega arith) in
    ((let z : c.args.n / 10 < t = omega arith in z), omega arith)

pub put_byte-requires-2 : goal.put_byte-requires-2
put_byte-requires-2 t c =
    let d = c.put_decimal-m in
    let e = decimal-longer c.args.n (omega arith) in
    let f = d.ensures.filled-is in
    let k = d.auto.out in
    omega arith

pub returns : goal.returns
returns t c =
    let n = c.args.n in
    let l = decimal-longer n (omega arith) in
    puts-as _ _ _ _ _ _ (ap (λ (d : ℕ). decimal (n / 10) ++ (d ∷ [])) c.digit-2.ensures ∙ sym (decimal-more n (omega arith)))
    (puts-then _ _ _ _ _ _ _ _ (omega arith) c.put_decimal-m.ensures c.put_byte-2.ensures)
