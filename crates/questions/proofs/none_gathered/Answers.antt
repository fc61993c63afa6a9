-- `none_gathered` meets its contract.
use mathlib.Core.Path.{ap}
use mathlib.Core.List.{List}
use Prim.Native.Nat.{ℕ}
use Rattle.questions.proofs.none_gathered.Goals as goal

pub returns : goal.returns
returns c = ap (λ (w : List ℕ). record { refusal = c.args.code; count = 0; lowest = 0; set = record { words = w } }) c.empty.ensures
