-- `bound_frame` meets its contract.
use Rattle.framestate.specs.FrameState.{bound_numbers}
use Rattle.rowframes.specs.RowFrames.{row-frames, same-bound}
use Rattle.rowframes.proofs.bound_frame.Goals as goal

pub returns : goal.returns
returns c =
    let a = c.args in
    row-frames _ _ _ _ a.n (bound_numbers a.n) _ _ _ (same-bound _ _ _ _ _ _ _ _ _ c.number_at-c.ensures.0 c.byte_at-kind.ensures.0 c.word_at_3-w.ensures.0)
    c.add_bound-a.ensures c.with_bounds.ensures c.finish.ensures
