-- `solve_rows` meets its contract: the refusal of the rows, the lack of Object, or the solve of what the arrays keep.
use borrow.Author.Rules.{rules}
use Rattle.lattice.specs.World.{world_of}
use Rattle.problemcolumns.specs.ProblemColumns.{columns_in}
use Rattle.problemcolumns.specs.Laws.{taken-counts}
use Rattle.solverows.specs.Laws.{refused-rows, refusal-is, object-there, parts-keep, parts-are, rows-solved}
use Rattle.solverows.proofs.solve_rows.Goals as goal

pub build_problem-n-requires : goal.build_problem-n-requires
build_problem-n-requires c =
    let p = c.requires in
    (p.0.1, p.1, (search rules, search rules, search rules, search rules, search rules))

pub returns-then-refusal-ne0 : goal.returns-then-refusal-ne0
returns-then-refusal-ne0 c =
    let columns = columns_in c.args.components c.args.var_comp.now c.args.bnd_comp.now c.args.bnd_kind.now c.args.bnd_type.now c.args.flow_src.now c.args.flow_dst.now c.args.up_src.now c.args.up_dst.now c.args.read_arr.now c.args.read_res.now c.args.write_arr.now c.args.write_val.now in
    let a = c.args in
    let b = c.build_problem-n in
    let k = c.rows_refusal-refusal in
    let f = c.refuse in
    let e = refusal-is a.t.names columns _ _ _ _ _ _ _ _ _ _ b.result b.ensures a.t.object k.result k.ensures in
    refused-rows a.answers.now a.out_comp.now a.out_kind.now a.out_type.now a.work.now _ f.result k.result f.ensures.0 f.ensures.1 (world_of a.pairs.now a.marks.now a.t) a.t columns c.if-refusal-ne0.true e

pub solve_kept-requires : goal.solve_kept-requires
solve_kept-requires c =
    let columns = columns_in c.args.components c.args.var_comp.now c.args.bnd_comp.now c.args.bnd_kind.now c.args.bnd_type.now c.args.flow_src.now c.args.flow_dst.now c.args.up_src.now c.args.up_dst.now c.args.read_arr.now c.args.read_res.now c.args.write_arr.now c.args.write_val.now in
    let a = c.args in
    let b = c.build_problem-n in
    let k = c.rows_refusal-refusal in
    let z = c.if-refusal-ne0.false in
    let p = c.requires.0 in (
      (p.0, (p.1, p.2 (object-there a.t.names columns _ _ _ _ _ _ _ _ _ _ b.result b.ensures a.t.object k.result k.ensures z))),
      taken-counts a.t.names columns _ _ _ _ _ _ _ _ _ _ b.result b.ensures,
      parts-keep a.t.names columns _ _ _ _ _ _ _ _ _ _ b.result b.ensures a.t.object k.result k.ensures z,
      c.requires.2,
    )

pub returns : goal.returns
returns c =
    let columns = columns_in c.args.components c.args.var_comp.now c.args.bnd_comp.now c.args.bnd_kind.now c.args.bnd_type.now c.args.flow_src.now c.args.flow_dst.now c.args.up_src.now c.args.up_dst.now c.args.read_arr.now c.args.read_res.now c.args.write_arr.now c.args.write_val.now in
    let a = c.args in
    let b = c.build_problem-n in
    let k = c.rows_refusal-refusal in
    let z = c.if-refusal-ne0.false in
    let e = refusal-is a.t.names columns _ _ _ _ _ _ _ _ _ _ b.result b.ensures a.t.object k.result k.ensures in
    let q = parts-are a.t.names columns _ _ _ _ _ _ _ _ _ _ b.result b.ensures a.t.object k.result k.ensures z in
    rows-solved (world_of a.pairs.now a.marks.now a.t) a.t columns _ k.result e z q _ _ _ c.solve_kept.ensures
