-- `solve_either` meets its contract: with rows, or with a slice that has none.
use mathlib.Core.Path.{subst}
use mathlib.Core.Bool.{Bool}
use lib.ListN.{length}
use Rattle.solves.specs.Choice.{Decides, classed-plain}
use Rattle.solves.proofs.solve_either.Goals as goal

pub solve_prepared-requires : goal.solve_prepared-requires
solve_prepared-requires c =
    let a = c.args in
    let p = c.requires in
    let d = subst (λ (b : Bool). Decides (length a.pairs.now) a.t.pairs b) c.if-is_prepared.true c.is_prepared.ensures in
    (p.0, d.0, d.1, p.1, p.2, p.3, p.4, p.5, p.6)

pub solve_into-requires : goal.solve_into-requires
solve_into-requires c =
    let a = c.args in
    let p = c.requires in
    let d = subst (λ (b : Bool). Decides (length a.pairs.now) a.t.pairs b) c.if-is_prepared.false c.is_prepared.ensures in
    (classed-plain a.pairs.now a.marks.now a.t p.0 d, p.1, p.2, p.3, p.4, p.5, p.6)
