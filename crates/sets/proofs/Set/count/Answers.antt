-- `Set::count` meets its contract. At word k, n is the count of the words below k.
use Rattle.std.proofs.Common.{◌≡◌, arith, ◌∙◌}
use lib.Count.{ones-le}
use Rattle.sets.proofs.Good.{array-length, array-fits}
use Rattle.sets.proofs.Loops.{sum_ones, sum-members, sum-drop, sum-end}
use Rattle.sets.proofs.Set.count.Goals as goal

pub loop-w-preserved : goal.loop-w-preserved
loop-w-preserved c =
    let ws = c.args.self.words in
    let k = c.loop-w.w-index in
    let o = ones-le 64 _ (array-fits 16 ws _ c.well_formed.0.1.1.0 k) in
    let l = array-length 16 ws _ c.well_formed.0.1.1.0 in
    let d = sum-drop ws k (omega arith) in
    (omega arith, omega arith)

pub returns : goal.returns
returns c =
    let ws = c.args.self.words in
    let l = array-length 16 ws _ c.well_formed.0.1.1.0 in
    let z = sum-end ws c.loop-w.w-index (omega arith) in
    let e : c.loop-w.n ≡ sum_ones ws = omega arith in
    e ∙ sum-members ws l (array-fits 16 ws _ c.well_formed.0.1.1.0)
