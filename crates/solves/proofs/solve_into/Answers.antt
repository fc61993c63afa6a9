-- `solve_into` meets its contract: a refused run leaves the slices, another's table is written out.
use mathlib.Core.Path.{refl}
use native.Mathlib.Omega.{arith}
use lib.ListN.{take}
use Prim.Native.Nat.{◌-◌}
use Rattle.solves.specs.SolveResult.{lent}
use Rattle.solves.specs.Laws.{kept-variables, run-refused, run-went, went-room, went-within, went-front, went-length, went-final, went-leaves}
use Rattle.solves.proofs.solve_into.Goals as goal

pub returns-then-c-ne0 : goal.returns-then-c-ne0
returns-then-c-ne0 c =
    let x = c.args in
    let p = c.requires in
    let o = c.run_problem-c in
    run-refused x.pairs.now x.marks.now x.t x.components x.variables.now x.bounds.now x.flows.now x.uppers.now x.reads.now x.writes.now p.0 p.1 o.new.a o.result o.ensures c.if-c-ne0.true (lent x.into.now x.out_comp.now x.out_kind.now x.out_type.now x.a.now) (lent x.into.now x.out_comp.now x.out_kind.now x.out_type.now o.new.a) refl refl refl refl

pub slice_bounds-write_solution-end : goal.slice_bounds-write_solution-end
slice_bounds-write_solution-end c =
    let x = c.args in
    let p = c.requires in
    let o = c.run_problem-c in
    let y = run-went x.pairs.now x.marks.now x.t x.components x.variables.now x.bounds.now x.flows.now x.uppers.now x.reads.now x.writes.now p.0 p.1 o.new.a o.result o.ensures c.if-c-ne0.false in
    went-within x.pairs.now x.marks.now x.t x.components x.variables.now x.bounds.now x.flows.now x.uppers.now x.reads.now x.writes.now p.0 p.1 o.new.a o.result o.ensures y

pub write_solution-requires : goal.write_solution-requires
write_solution-requires c =
    let x = c.args in
    let p = c.requires in
    let o = c.run_problem-c in
    let y = run-went x.pairs.now x.marks.now x.t x.components x.variables.now x.bounds.now x.flows.now x.uppers.now x.reads.now x.writes.now p.0 p.1 o.new.a o.result o.ensures c.if-c-ne0.false in
    let f = went-front x.pairs.now x.marks.now x.t x.components x.variables.now x.bounds.now x.flows.now x.uppers.now x.reads.now x.writes.now p.0 p.1 o.new.a o.result o.ensures y in (
      p.0,
      went-final x.pairs.now x.marks.now x.t x.components x.variables.now x.bounds.now x.flows.now x.uppers.now x.reads.now x.writes.now p.0 p.1 o.new.a o.result o.ensures y (take (o.result.bounds - 0) o.new.a) f,
      kept-variables x.pairs.now x.marks.now x.t x.components x.variables.now x.bounds.now x.flows.now x.uppers.now x.reads.now x.writes.now p.0 p.1,
      omega (arith, went-length x.pairs.now x.marks.now x.t x.components x.variables.now x.bounds.now x.flows.now x.uppers.now x.reads.now x.writes.now p.0 p.1 o.new.a o.result o.ensures y (take (o.result.bounds - 0) o.new.a) f, went-room x.pairs.now x.marks.now x.t x.components x.variables.now x.bounds.now x.flows.now x.uppers.now x.reads.now x.writes.now p.0 p.1 o.new.a o.result o.ensures y),
      p.2,
      p.3,
      p.4,
      p.5,
    )

pub returns : goal.returns
returns c =
    let x = c.args in
    let p = c.requires in
    let o = c.run_problem-c in
    let v = c.write_solution in
    let y = run-went x.pairs.now x.marks.now x.t x.components x.variables.now x.bounds.now x.flows.now x.uppers.now x.reads.now x.writes.now p.0 p.1 o.new.a o.result o.ensures c.if-c-ne0.false in
    went-leaves x.pairs.now x.marks.now x.t x.components x.variables.now x.bounds.now x.flows.now x.uppers.now x.reads.now x.writes.now p.0 p.1 o.new.a o.result o.ensures y (take (o.result.bounds - 0) o.new.a) (went-front x.pairs.now x.marks.now x.t x.components x.variables.now x.bounds.now x.flows.now x.uppers.now x.reads.now x.writes.now p.0 p.1 o.new.a o.result o.ensures y) (lent x.into.now x.out_comp.now x.out_kind.now x.out_type.now x.a.now) (lent v.new.into v.new.out_comp v.new.out_kind v.new.out_type o.new.a) v.ensures.0 v.ensures.1
