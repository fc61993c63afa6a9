-- `count_frame` meets its contract.
use mathlib.Core.Path.{ap, ap₂, ◌∙◌}
use Prim.Native.Nat.{ℕ}
use Rattle.problemrows.specs.ProblemRows.{count_refusal}
use Rattle.framestate.specs.declared.Numbers.{Numbers}
use Rattle.framestate.specs.FrameState.{taken, count_numbers}
use Rattle.rowframes.proofs.count_frame.Goals as goal

pub returns : goal.returns
returns c =
    let n = c.args.n in
    c.finish.ensures ∙ ap₂ (λ (k : ℕ) (m : Numbers). taken k n m) c.check_count.ensures c.counted.ensures
    ∙ ap (λ (x : ℕ). taken (count_refusal x) n (count_numbers n x)) c.number_at-c.ensures.0
