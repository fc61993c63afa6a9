-- `members_load` meets its contract. The loop's invariant: the payload is what the digits passed have made, and what the
-- rest will add.
use native.Mathlib.Omega.{arith}
use Rattle.keys.specs.Parts.{members-lt}
use Rattle.keys.proofs.Rest.{rest-all, rest-end, rest-none, rest-more}
use Rattle.keys.proofs.members_load.Goals as goal

pub loop-i-init : goal.loop-i-init
loop-i-init c = omega (arith, rest-all c.args.digits)

pub overflow_add-result : goal.overflow_add-result
overflow_add-result c = omega (arith, members-lt c.args.digits)

pub returns-then-d-eq0 : goal.returns-then-d-eq0
returns-then-d-eq0 c =
    let x = c.args.digits in
    let l = c.loop-i in
    omega (arith, rest-none x l.i c.digit-d.result c.loop-i-test.true c.digit-d.ensures c.if-d-eq0.true)

pub overflow_add-sum : goal.overflow_add-sum
overflow_add-sum c =
    let x = c.args.digits in
    let l = c.loop-i in
    omega (
      arith,
      members-lt x,
      rest-more x l.i c.digit-d.result c.loop-i-test.true c.digit-d.ensures c.if-d-eq0.false,
    )

pub loop-i-preserved : goal.loop-i-preserved
loop-i-preserved c =
    let l = c.loop-i in
    omega (arith, rest-more c.args.digits l.i c.digit-d.result c.loop-i-test.true c.digit-d.ensures c.if-d-eq0.false)

pub overflow_add-result-2 : goal.overflow_add-result-2
overflow_add-result-2 c = omega (arith, members-lt c.args.digits)

pub returns : goal.returns
returns c = omega (arith, rest-end c.args.digits c.loop-i.i c.loop-i-test.false)
