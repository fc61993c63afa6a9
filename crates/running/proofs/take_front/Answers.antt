-- `take_front` meets its contract: the front popped.
use Rattle.running.proofs.take_front.Goals as goal

pub returns : goal.returns
returns c =
    let x = c.args in
    let e = c.pop-p.ensures in
    λ i. record { root = (e i).front; state = record { refusal = x.s.refusal; count = x.s.count; queue = (e i).rest } }
