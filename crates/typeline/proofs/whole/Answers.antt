-- `whole` meets its contract: the line is answered, and what is held is held after it.
use Rattle.std.proofs.Common.{refl, ◌∙◌, zero-le}
use Rattle.typeline.specs.Held.{StillHolds, say-room}
use Rattle.typeline.proofs.Failed.{when-failed}
use Rattle.typeline.proofs.whole.Goals as goal

pub say_line-spoken-requires : goal.say_line-spoken-requires
say_line-spoken-requires g c = let p = c.requires in (p.stands, p.all-answers, say-room c.args.s.filled c.args.out.now p.waits p.all-out)

pub returns-clause-ok : goal.returns-clause-ok
returns-clause-ok g c = let p = c.requires in let y = c.say_line-spoken in (record { stands = y.ensures.stands.0; all-answers = y.auto.answers ∙ p.all-answers; all-out = y.auto.out ∙ p.all-out; waits = c.in_ok-filled.ensures }, refl)

pub returns-in_err-filled-clause-err : goal.returns-in_err-filled-clause-err
returns-in_err-filled-clause-err g c = let p = c.requires in let y = c.say_line-spoken in
    let h : StillHolds y.new.last y.new.pairs y.new.marks y.new.rows y.new.answers y.new.out = (y.result.numbers, record { stands = y.ensures.stands.0; all-answers = y.auto.answers ∙ p.all-answers; all-out = y.auto.out ∙ p.all-out; waits = zero-le }) in
    when-failed _ h
