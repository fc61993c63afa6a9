-- `read_frame` meets its contract.
use Rattle.framestate.specs.FrameState.{read_numbers}
use Rattle.rowframes.specs.RowFrames.{row-frames, same-pair}
use Rattle.rowframes.proofs.read_frame.Goals as goal

pub returns : goal.returns
returns c =
    let a = c.args in
    row-frames _ _ _ _ a.n (read_numbers a.n) _ _ _ (same-pair _ _ _ _ _ _ _ c.number_at-a.ensures.0 c.number_at-b.ensures.0) c.add_pair-d.ensures c.with_reads.ensures c.finish.ensures
