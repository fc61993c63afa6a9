-- `start` meets its contract: the ring filled.
use Rattle.running.proofs.start.Goals as goal

pub returns : goal.returns
returns c =
    let x = c.args in
    let f = c.fill in
    (λ i. record { refusal = 0; count = x.count; queue = f.ensures.0 i }, f.ensures.1)
