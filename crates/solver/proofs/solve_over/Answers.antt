-- `solve_over` meets its contract: what was loaded is the given table, and the run from it is counted.
use Rattle.solver.specs.Solver.{given-fit, runnable, solved}
use Rattle.solver.proofs.solve_over.Goals as goal

pub load-requires : goal.load-requires
load-requires c =
    let x = c.args in
    let p = c.requires in
    given-fit x.pairs.now x.marks.now x.t x.given.now x.a.now x.flows.now x.incoming.now x.reads.now x.writes.now x.components p.0

pub propagate-ran-requires : goal.propagate-ran-requires
propagate-ran-requires c =
    let x = c.args in
    let p = c.requires in
    let o = c.load in
    runnable x.pairs.now x.marks.now x.t x.given.now x.a.now x.flows.now x.incoming.now x.reads.now x.writes.now x.components p.0 o.new.a o.ensures x.ring.now x.words.now x.fallbacks.now x.uppers.now p.1

pub returns : goal.returns
returns c =
    let x = c.args in
    let p = c.requires in
    let o = c.load in
    let v = c.propagate-ran in
    solved x.pairs.now x.marks.now x.t x.given.now x.a.now x.flows.now x.incoming.now x.reads.now x.writes.now x.components p.0 o.new.a o.ensures v.new.a v.new.ring v.result c.counts_of.result c.counts_of.ensures v.ensures
