-- `end` meets its contract: the members end inside, or there is no whole list.
use Rattle.std.proofs.Common.{refl, arith}
use Rattle.replaying.proofs.Steps.{end-none, end-some}
use Rattle.replaying.proofs.lists.end.Goals as goal

pub returns-then-a-at : goal.returns-then-a-at
returns-then-a-at c = let a = c.args in record { is = end-none a.a.now a.at (omega arith); inside = omega arith; whole = λ n. absurd (n refl) }

pub returns-then-a-at-2 : goal.returns-then-a-at-2
returns-then-a-at-2 c = let a = c.args in record { is = end-none a.a.now a.at (omega arith); inside = omega arith; whole = λ n. absurd (n refl) }

pub returns : goal.returns
returns c = let a = c.args in record { is = end-some a.a.now a.at (omega arith); inside = omega arith; whole = λ n. refl }
