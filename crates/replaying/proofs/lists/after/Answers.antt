-- `after` meets its contract: the list that was found begins where the other ends.
use Rattle.std.proofs.Common.{◌<◌, refl, arith}
use Rattle.replaying.proofs.Steps.{none-at, after-none, after-broken, after-whole}
use Rattle.replaying.proofs.lists.after.Goals as goal

pub returns-then-s-eq0 : goal.returns-then-s-eq0
returns-then-s-eq0 c =
    let a = c.args in
    record { is = after-none a.a.now a.s c.if-s-eq0.true; ordered = omega arith; inside = omega arith; whole = λ n. absurd (n refl) }

pub returns-then-e-at : goal.returns-then-e-at
returns-then-e-at c =
    let a = c.args in
    let e = c.end-e in
    let w = e.ensures.whole in
    let l = c.if-e-at.true in
    record { is = after-broken a.a.now a.s c.if-s-eq0.false e.result e.ensures.is (none-at _ _ _ l w); ordered = omega arith; inside = omega arith; whole = λ n. absurd (n refl) }

pub returns : goal.returns
returns c =
    let a = c.args in
    let e = c.end-e in
    let l = e.ensures in
    let past : a.s.end < e.result = c.if-e-at.false in
    record {
      is = after-whole a.a.now a.s c.if-s-eq0.false e.result l.is (λ z. omega arith);
      ordered = omega arith;
      inside = l.inside;
      whole = λ n. (refl, l.whole (λ z. omega arith));
    }
