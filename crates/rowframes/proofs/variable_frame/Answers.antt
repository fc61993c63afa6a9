-- `variable_frame` meets its contract.
use Rattle.framestate.specs.FrameState.{variable_numbers}
use Rattle.rowframes.specs.RowFrames.{row-frames, same-variable}
use Rattle.rowframes.proofs.variable_frame.Goals as goal

pub returns : goal.returns
returns c =
    let a = c.args in
    row-frames _ _ _ _ a.n (variable_numbers a.n) _ _ _ (same-variable _ _ _ _ c.number_at-c.ensures.0) c.add_variable-a.ensures c.with_variables.ensures c.finish.ensures
