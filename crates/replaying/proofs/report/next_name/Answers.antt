-- `next_name` meets its contract.
use Rattle.std.proofs.Common.{◌+◌, Bool, cond, sym, ap, eq-eqb, ne_eqb}
use Rattle.replaying.proofs.report.next_name.Goals as goal

pub returns-then-b-eq32 : goal.returns-then-b-eq32
returns-then-b-eq32 c = let a = c.args in sym (ap (λ (t : Bool). cond t (a.k + 1) a.k) (eq-eqb a.b 32 c.if-b-eq32.true))

pub returns : goal.returns
returns c = let a = c.args in sym (ap (λ (t : Bool). cond t (a.k + 1) a.k) (ne_eqb a.b 32 c.if-b-eq32.false))
