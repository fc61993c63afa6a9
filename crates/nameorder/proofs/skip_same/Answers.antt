-- The passing of equal blocks meets its contract: the names stand to each other as they do from i on.
use mathlib.Core.Path.{sym, ◌∙◌}
use Prim.Native.Nat.{◌+◌}
use native.Mathlib.Omega.{arith}
use Rattle.nameorder.proofs.Block.{past}
use Rattle.nameorder.proofs.skip_same.Goals as goal

pub loop-i-preserved : goal.loop-i-preserved
loop-i-preserved c =
    let a = c.args in
    let l = c.loop-i in (
      l.invariant.0,
      l.invariant.1,
      omega arith,
      l.invariant.3 ∙ past a.a.now a.b.now l.i (l.i + 8) (omega arith) (sym c.differ_in_block.ensures ∙ c.if-differ_in_block.false),
    )
