-- `record_frame` meets its contract: the parents are the numbers of the body from its fourth byte on.
use mathlib.Core.Path.{ap, ◌∙◌}
use mathlib.Core.List.{List}
use Prim.Native.Nat.{ℕ, ◌-◌}
use native.Mathlib.Omega.{arith}
use lib.ListN.{length, take, drop, length-drop}
use lib.Seq.{take_all}
use Rattle.rows.specs.Keys.{take-filled}
use Rattle.hexline.specs.Hex.{numbers_in}
use Rattle.hexline.specs.Laws.{numbers-length}
use Rattle.rowframes.specs.RowFrames.{record-frames, same-record, part-front}
use Rattle.rowframes.proofs.record_frame.Goals as goal

pub slice_bounds-add_to_stack-end : goal.slice_bounds-add_to_stack-end
slice_bounds-add_to_stack-end c =
    let b = c.args.body.now in
    let l = length-drop 3 b in
    let e = take_all (length b - 3) (drop 3 b) (omega arith) in
    let q = c.put_numbers-k.ensures.0 ∙ ap (λ (x : List ℕ). length (numbers_in x)) e in
    let m = numbers-length (drop 3 b) (omega arith) in
    let k = c.put_numbers-k.auto.numbers in
    omega arith

pub returns : goal.returns
returns c =
    let b = c.args.body.now in
    let l = length-drop 3 b in
    let e = take_all (length b - 3) (drop 3 b) (omega arith) in
    let p = c.put_numbers-k in
    record-frames _ _ _ _ _ c.args.n _ _ _
    (same-record _ _ _ _ _ _ _ c.byte_at-flags.ensures.0 c.number_at-class.ensures.0 (part-front p.result _ ∙ ap (take p.result) p.ensures.1 ∙ take-filled _ _ p.result p.ensures.0 ∙ ap numbers_in e))
    c.add_to_stack-o.ensures c.recorded.ensures c.finish.ensures
