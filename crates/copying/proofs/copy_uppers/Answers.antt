-- `copy_uppers` meets its contract: the upper ones, and the exact ones behind them.
use native.Mathlib.Omega.{arith}
use Rattle.copying.specs.Steps.{run-short, two-short, uppers-copied, uppers-length}
use Rattle.copying.proofs.copy_uppers.Goals as goal

pub copy_ranks-upper-requires : goal.copy_ranks-upper-requires
copy_ranks-upper-requires c =
    let x = c.args in
    let p = c.requires in
    (p.0, p.1, omega arith, omega (arith, p.2, run-short x.component 2 x.keys.now p.0))

pub copy_ranks-requires : goal.copy_ranks-requires
copy_ranks-requires c =
    let x = c.args in
    let p = c.requires in
    let o = c.copy_ranks-upper in
    (p.0, p.1, omega arith, omega (arith, p.2, o.ensures.0, o.auto.out, two-short x.component 2 4 x.keys.now p.0 (omega arith)))

pub returns : goal.returns
returns c =
    let x = c.args in
    let o = c.copy_ranks-upper in
    let v = c.copy_ranks in (
      uppers-length x.component x.keys.now x.out.now o.result v.result o.ensures.0 v.ensures.0,
      uppers-copied x.component x.keys.now x.out.now o.result o.new.out v.new.out o.ensures.0 o.ensures.1 v.ensures.1,
    )
