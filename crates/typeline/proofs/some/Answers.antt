-- `some` meets its contract: at the end nothing changes, and else what was read is fed.
use Rattle.std.proofs.Common.{zero-le}
use Rattle.typeline.specs.Held.{StillHolds, holds-same, used-same}
use Rattle.typeline.proofs.Failed.{when-failed}
use Rattle.typeline.proofs.some.Goals as goal

pub returns-then-n-eq0-clause-ok : goal.returns-then-n-eq0-clause-ok
returns-then-n-eq0-clause-ok g c = let u = c.at_end.ensures in (holds-same c.args.last.now c.args.pairs.now c.args.marks.now c.args.rows.now c.args.answers.now c.args.out.now c.args.s.numbers _ c.args.s.filled _ c.requires.0 u.0 u.2, used-same _ _ u.1 c.requires.2)

pub returns-in_err-flush-in-Err-2-clause-err : goal.returns-in_err-flush-in-Err-2-clause-err
returns-in_err-flush-in-Err-2-clause-err g c = let h = c.requires.0 in
    let k : StillHolds c.args.last.now c.args.pairs.now c.args.marks.now c.args.rows.now c.args.answers.now c.args.out.now = (c.args.s.numbers, record { stands = h.stands; all-answers = h.all-answers; all-out = h.all-out; waits = zero-le }) in
    when-failed _ k

pub returns-in-Err-2-clause-err : goal.returns-in-Err-2-clause-err
returns-in-Err-2-clause-err g c = let h = c.requires.0 in
    let k : StillHolds c.args.last.now c.args.pairs.now c.args.marks.now c.args.rows.now c.args.answers.now c.args.out.now = (c.args.s.numbers, record { stands = h.stands; all-answers = h.all-answers; all-out = h.all-out; waits = zero-le }) in
    k
