-- `Set::lowest` meets its contract. At word k the words below k are 0.
use mathlib.Core.Path.{ap, ◌∙◌}
use Prim.Native.Nat.{ℕ, ◌+◌}
use native.Mathlib.Omega.{arith}
use lib.ListN.{get_or, drop}
use Rattle.sets.proofs.Good.{array-length, array-fits}
use Rattle.sets.proofs.Loops.{low_words, low_step, low-members, low-drop, low-end, low-pos}
use Rattle.sets.proofs.Set.lowest.Goals as goal

pub returns-then-w-ne0 : goal.returns-then-w-ne0
returns-then-w-ne0 c =
    let ws = c.args.self.words in
    let k = c.loop-k.k in
    let l = array-length 16 ws _ c.well_formed.0.1.1.0 in
    let d = low-drop ws k (omega arith) in
    let p = low-pos (get_or ws k 0) (low_words (drop (k + 1) ws)) c.if-w-ne0.true in
    let f = low-members ws l (array-fits 16 ws _ c.well_formed.0.1.1.0) in
    omega arith

pub loop-k-preserved : goal.loop-k-preserved
loop-k-preserved c =
    let ws = c.args.self.words in
    let k = c.loop-k.k in
    let l = array-length 16 ws _ c.well_formed.0.1.1.0 in
    let d = low-drop ws k (omega arith) ∙ ap (λ (w : ℕ). low_step w (low_words (drop (k + 1) ws))) c.if-w-ne0.false in
    omega arith

pub returns : goal.returns
returns c =
    let ws = c.args.self.words in
    let l = array-length 16 ws _ c.well_formed.0.1.1.0 in
    let z = low-end ws c.loop-k.k (omega arith) in
    let f = low-members ws l (array-fits 16 ws _ c.well_formed.0.1.1.0) in
    omega arith
