-- `take_away` meets its contract: the run of the class is one piece, and what stands behind it moves down.
use mathlib.Core.Path.{sym, ap, ◌∙◌}
use mathlib.Core.List.{List}
use Prim.Native.Nat.{ℕ, ◌+◌, ◌-◌, ◌≤◌}
use native.Mathlib.Omega.{arith}
use lib.ListN.{length}
use Rattle.rows.specs.Rows.{filled}
use Rattle.layers.proofs.Steps.{closed-up, closed-length, run-in, run-gone}
use Rattle.layers.proofs.take_away.Goals as goal

pub copy_within-requires-clause-start_le_end : goal.copy_within-requires-clause-start_le_end
copy_within-requires-clause-start_le_end c = omega (arith, run-in c.args.pairs.now c.args.n c.args.class c.requires.1 c.requires.2 c.run-run.result c.run-run.ensures)

pub copy_within-requires-clause-dest_in_bounds : goal.copy_within-requires-clause-dest_in_bounds
copy_within-requires-clause-dest_in_bounds c =
    let r = run-in c.args.pairs.now c.args.n c.args.class c.requires.1 c.requires.2 c.run-run.result c.run-run.ensures in
    let e : c.run-run.result.first + (c.args.n - c.run-run.result.past) ≤ length c.args.pairs.now = omega (arith, r, c.requires.1) in
    e

pub overflow_sub-result : goal.overflow_sub-result
overflow_sub-result c = omega (arith, run-in c.args.pairs.now c.args.n c.args.class c.requires.1 c.requires.2 c.run-run.result c.run-run.ensures)

pub overflow_sub-result-2 : goal.overflow_sub-result-2
overflow_sub-result-2 c = omega (arith, run-in c.args.pairs.now c.args.n c.args.class c.requires.1 c.requires.2 c.run-run.result c.run-run.ensures)

pub returns : goal.returns
returns c =
    let a = c.args in
    let run = c.run-run in
    let r = run-in a.pairs.now a.n a.class c.requires.1 c.requires.2 run.result run.ensures in
    let gone = run-gone a.pairs.now a.n a.class c.requires.1 c.requires.2 run.result run.ensures in (
      sym (ap length gone ∙ closed-length a.pairs.now a.n run.result.first run.result.past r.0 r.1 c.requires.1),
      c.copy_within.ensures.after ∙ closed-up a.pairs.now a.n run.result.first run.result.past r.0 r.1 c.requires.1
          ∙ ap (λ (l : List ℕ). filled l a.pairs.now) (sym gone),
    )
