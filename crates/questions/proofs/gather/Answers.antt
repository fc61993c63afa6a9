-- `gather` meets its contract.
use mathlib.Core.Path.{ap₂}
use Prim.Native.Nat.{ℕ}
use Rattle.questions.specs.Questions.{gathered}
use Rattle.questions.proofs.gather.Goals as goal

pub returns : goal.returns
unfolding gathered
returns c =
    let s = c.args in
    ap₂ (λ (n l : ℕ). record { refusal = 0; count = n; lowest = l; set = s.s }) c.count.ensures c.lowest.ensures
