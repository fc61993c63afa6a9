-- `join` meets its contract: at word k the words below k are joined.
use native.Mathlib.Omega.{arith}
use mathlib.Core.Path.{refl}
use Prim.Native.Nat.{◌+◌, ◌*◌}
use Rattle.sets.proofs.Good.{array-length}
use Rattle.ancestry.specs.Rows.{joining-start, joining-more, joining-end}
use Rattle.ancestry.proofs.join.Goals as goal

pub loop-k-init : goal.loop-k-init
loop-k-init c =
    let n = array-length 16 c.args.s.words _ c.well_formed.1.1.0.1.1.0 in
    (refl, c.requires.1, c.requires.0, n, c.requires.0, joining-start c.args.rows.now c.args.c c.args.s.words c.requires.0)

pub loop-k-preserved : goal.loop-k-preserved
loop-k-preserved c =
    let a = c.args in
    let l = c.loop-k in
    let j = joining-more a.rows.now a.c a.s.words l.rows l.k (16 * a.c + l.k) l.invariant.5 (omega arith) l.invariant.1 refl in
    (refl, l.invariant.1, l.invariant.2, l.invariant.3, j.size, j)

pub returns : goal.returns
returns c =
    let l = c.loop-k in
    joining-end c.args.rows.now c.args.c c.args.s.words l.rows l.k l.invariant.5 (omega arith) l.invariant.1 l.invariant.2 l.invariant.3
