-- `solve_over` meets its contract: refused by the table, or the solve over the table that was built.
use Rattle.columns.specs.Given.{given_of}
use Rattle.problemcolumns.specs.ProblemColumns.{columns_in}
use Rattle.questions.specs.Laws.{stands}
use Rattle.solvedoor.specs.Laws.{refused-of, table-refused, table-solved}
use Rattle.solvedoor.proofs.solve_over.Goals as goal

pub build_table-o-requires : goal.build_table-o-requires
build_table-o-requires c =
    let p = c.requires in
    (p.0, p.1)

pub returns-then-o-ne0 : goal.returns-then-o-ne0
returns-then-o-ne0 c =
    let table = given_of c.args.table.now in
    let columns = columns_in c.args.components c.args.var_comp.now c.args.bnd_comp.now c.args.bnd_kind.now c.args.bnd_type.now c.args.flow_src.now c.args.flow_dst.now c.args.up_src.now c.args.up_dst.now c.args.read_arr.now c.args.read_res.now c.args.write_arr.now c.args.write_val.now in
    let a = c.args in
    let o = c.build_table-o in
    let f = c.refuse in
    let n = c.if-o-ne0.true in
    refused-of a.answers.now a.out_comp.now a.out_kind.now a.out_type.now a.work.now _ f.result o.result.refusal f.ensures.0 f.ensures.1 table columns n (table-refused table columns c.requires.2 _ _ o.result o.ensures n)

pub solve_rows-requires : goal.solve_rows-requires
solve_rows-requires c =
    let table = given_of c.args.table.now in
    let o = c.build_table-o in
    let t = stands table _ _ o.result o.ensures c.if-o-ne0.false in
    ((t.wide, t.few, t.object-in), c.requires.2, c.requires.3)

pub returns : goal.returns
returns c =
    let table = given_of c.args.table.now in
    let columns = columns_in c.args.components c.args.var_comp.now c.args.bnd_comp.now c.args.bnd_kind.now c.args.bnd_type.now c.args.flow_src.now c.args.flow_dst.now c.args.up_src.now c.args.up_dst.now c.args.read_arr.now c.args.read_res.now c.args.write_arr.now c.args.write_val.now in
    let o = c.build_table-o in
    table-solved table columns c.requires.2 _ _ o.result o.ensures c.if-o-ne0.false _ _ _ c.solve_rows.ensures
