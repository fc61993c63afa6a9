-- `replay` meets its contract: it takes from the input what it filled the buffer with.
use Rattle.std.specs.Prelude.{Result, Ok, Err, IfOk}
use Rattle.replaying.proofs.run.replay.Goals as goal

-- what holds whatever the result is holds of an Ok
of_ok : {T E : Type 0} (P : Type 0) (r : Result T E) → P → IfOk r (λ u. P)
of_ok P (Ok x) p = p
of_ok P (Err e) p = tt

pub returns : goal.returns
returns g c = let e = c.in_ok-n.ensures in of_ok _ c.print.result (c.in_ok-n.n, e.within, e.bytes)
