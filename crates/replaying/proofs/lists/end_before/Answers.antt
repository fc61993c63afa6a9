-- `end_before` meets its contract: the end is tested against the length.
use Rattle.std.proofs.Common.{refl, arith}
use Rattle.replaying.proofs.Steps.{last-none, last-some}
use Rattle.replaying.proofs.lists.end_before.Goals as goal

pub returns-then-a-e : goal.returns-then-a-e
returns-then-a-e c =
    let a = c.args in
    let e = c.end-e.ensures in
    record { is = last-some a.a.now a.at a.more _ e.is (omega arith); inside = omega arith; whole = λ n. (e.whole n, omega arith) }

pub returns : goal.returns
returns c =
    let a = c.args in
    let e = c.end-e.ensures in
    let i = e.inside in
    let n = c.if-a-e.false in
    record { is = last-none a.a.now a.at a.more _ e.is (λ q. n (omega arith)); inside = omega arith; whole = λ k. absurd (k refl) }
