-- `asks` meets its contract: both tests.
use Rattle.asking.proofs.asks.Goals as goal

pub returns : goal.returns
returns c =
    let p = c.asks_produced.ensures in
    let e = c.asks_element.ensures in
    λ i. record { produced = p i; element = e i }
