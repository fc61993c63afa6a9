-- `clean_block` meets its contract: after k bytes, `bad` is the number of their faults.
use Rattle.std.proofs.Common.{◌≡◌, refl, ap, ◌∙◌, ◌+◌, arith, eqb}
use Rattle.utf8.specs.Seams.{faults, seam-le, faults-le, faults-step}
use Rattle.utf8.proofs.clean_block.Goals as goal

pub loop-k-init : goal.loop-k-init
unfolding faults
loop-k-init c = refl

pub overflow_add-bad : goal.overflow_add-bad
overflow_add-bad c =
    let a = c.args in
    let l = c.loop-k in
    omega (arith, l.invariant, faults-le a.s.now a.i l.k, c.faults_of-bad.ensures, seam-le a.s.now (a.i + l.k))

pub loop-k-preserved : goal.loop-k-preserved
loop-k-preserved c =
    let a = c.args in
    let l = c.loop-k in
    omega (arith, l.invariant, c.faults_of-bad.ensures, faults-step a.s.now a.i l.k)

pub returns : goal.returns
returns c =
    let a = c.args in
    let l = c.loop-k in
    let e : l.k ≡ 16 = omega arith in
    ap (λ n. eqb n 0) (l.invariant ∙ ap (faults a.s.now a.i) e)
