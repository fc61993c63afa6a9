-- `run_linked` meets its contract: what is kept is what the run asks, and its run is the definition's.
use native.Mathlib.Omega.{arith}
use Rattle.solves.specs.Laws.{kept-links, links-within, links-front, kept-solvable, kept-run}
use Rattle.solves.proofs.run_linked.Goals as goal

pub incoming_links-n-requires : goal.incoming_links-n-requires
incoming_links-n-requires c =
    let x = c.args in
    let p = c.requires in
    omega (arith, p.2, kept-links x.pairs.now x.marks.now x.t x.components x.variables.now x.bounds.now x.flows.now x.uppers.now x.reads.now x.writes.now p.0 p.1)

pub slice_bounds-solve-end : goal.slice_bounds-solve-end
slice_bounds-solve-end c =
    let x = c.args in
    let p = c.requires in
    let o = c.incoming_links-n in
    links-within x.pairs.now x.marks.now x.t x.components x.variables.now x.bounds.now x.flows.now x.uppers.now x.reads.now x.writes.now p.0 p.1 x.incoming.now o.new.incoming o.result p.2 o.ensures.0 o.ensures.1

pub solve-requires : goal.solve-requires
solve-requires c =
    let x = c.args in
    let p = c.requires in
    let o = c.incoming_links-n in
    kept-solvable x.pairs.now x.marks.now x.t x.components x.variables.now x.bounds.now x.flows.now x.uppers.now x.reads.now x.writes.now p.0 p.1 _ (links-front x.pairs.now x.marks.now x.t x.components x.variables.now x.bounds.now x.flows.now x.uppers.now x.reads.now x.writes.now p.0 p.1 x.incoming.now o.new.incoming o.result p.2 o.ensures.0 o.ensures.1) x.a.now p.3

pub returns : goal.returns
returns c =
    let x = c.args in
    let p = c.requires in
    let o = c.incoming_links-n in
    let r = c.solve in
    kept-run x.pairs.now x.marks.now x.t x.components x.variables.now x.bounds.now x.flows.now x.uppers.now x.reads.now x.writes.now p.0 p.1 _ (links-front x.pairs.now x.marks.now x.t x.components x.variables.now x.bounds.now x.flows.now x.uppers.now x.reads.now x.writes.now p.0 p.1 x.incoming.now o.new.incoming o.result p.2 o.ensures.0 o.ensures.1) r.new.a r.result r.ensures
