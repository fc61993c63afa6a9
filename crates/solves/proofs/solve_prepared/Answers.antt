-- `solve_prepared` meets its contract: a prepared slice gives the same world.
use Rattle.lattice.specs.World.{world_of}
use Rattle.problems.specs.Kept.{problem_of}
use Rattle.solves.specs.Choice.{classed-laid, laid-world, leaves-along}
use Rattle.solves.proofs.solve_prepared.Goals as goal

pub solve_into-requires : goal.solve_into-requires
solve_into-requires c =
    let a = c.args in
    let p = c.requires in
    let f = c.prepare in
    (classed-laid a.pairs.now a.marks.now a.t c.given_classes-given.result.words f.new.table p.0 p.1 p.2 f.ensures, p.3, p.4, p.5, p.6, p.7, p.8)

pub returns : goal.returns
returns c =
    let a = c.args in
    let p = c.requires in
    let f = c.prepare in
    let table = f.new.table in
    leaves-along (world_of table a.marks.now a.t) (world_of a.pairs.now a.marks.now a.t)
    (laid-world a.pairs.now a.marks.now a.t c.given_classes-given.result.words table p.0 p.1 p.2 f.ensures)
    (problem_of a.components a.variables.now a.bounds.now a.flows.now a.uppers.now a.reads.now a.writes.now) c.solve_into.ensures
