-- `solve_slices` meets its contract: refused by lengths, or the solve with the room that the table's layers need.
use borrow.Author.Rules.{rules}
use Rattle.columns.specs.Given.{given_of}
use Rattle.problemcolumns.specs.ProblemColumns.{columns_in}
use Rattle.layercolumns.specs.Laws.{room-plain}
use Rattle.solves.specs.SolveResult.{lent}
use Rattle.solvedoor.specs.Laws.{roomy, door-long, lengths-refused, lengths-good, door-lengths}
use Rattle.solvedoor.proofs.solve_slices.Goals as goal

pub returns-then-short-ne0 : goal.returns-then-short-ne0
returns-then-short-ne0 c =
    let table = given_of c.args.table.now in
    let columns = columns_in c.args.components c.args.var_comp.now c.args.bnd_comp.now c.args.bnd_kind.now c.args.bnd_type.now c.args.flow_src.now c.args.flow_dst.now c.args.up_src.now c.args.up_dst.now c.args.read_arr.now c.args.read_res.now c.args.write_arr.now c.args.write_val.now in
    let slices = lent c.args.answers.now c.args.out_comp.now c.args.out_kind.now c.args.out_type.now c.args.work.now in
    let a = c.args in
    let k = c.lengths_refusal-short in
    let f = c.refuse_lengths in
    door-lengths table columns a.answers.now a.out_comp.now a.out_kind.now a.out_type.now a.work.now _ f.result k.result f.ensures.0 f.ensures.1 c.if-short-ne0.true (lengths-refused columns slices k.result k.ensures)

pub solve_layers-requires : goal.solve_layers-requires
solve_layers-requires c =
    let columns = columns_in c.args.components c.args.var_comp.now c.args.bnd_comp.now c.args.bnd_kind.now c.args.bnd_type.now c.args.flow_src.now c.args.flow_dst.now c.args.up_src.now c.args.up_dst.now c.args.read_arr.now c.args.read_res.now c.args.write_arr.now c.args.write_val.now in
    let slices = lent c.args.answers.now c.args.out_comp.now c.args.out_kind.now c.args.out_type.now c.args.work.now in
    let k = c.lengths_refusal-short in
    let good = lengths-good columns slices k.result (lengths-refused columns slices k.result k.ensures) c.if-short-ne0.false in
    (good.1, roomy columns slices good.0)

pub returns-then-first_open-table : goal.returns-then-first_open-table
returns-then-first_open-table c =
    let table = given_of c.args.table.now in
    let columns = columns_in c.args.components c.args.var_comp.now c.args.bnd_comp.now c.args.bnd_kind.now c.args.bnd_type.now c.args.flow_src.now c.args.flow_dst.now c.args.up_src.now c.args.up_dst.now c.args.read_arr.now c.args.read_res.now c.args.write_arr.now c.args.write_val.now in
    let slices = lent c.args.answers.now c.args.out_comp.now c.args.out_kind.now c.args.out_type.now c.args.work.now in
    let k = c.lengths_refusal-short in
    let good = lengths-good columns slices k.result (lengths-refused columns slices k.result k.ensures) c.if-short-ne0.false in
    door-long table columns slices _ _ good.0 c.solve_layers.ensures

pub solve_over-requires : goal.solve_over-requires
solve_over-requires c =
    let columns = columns_in c.args.components c.args.var_comp.now c.args.bnd_comp.now c.args.bnd_kind.now c.args.bnd_type.now c.args.flow_src.now c.args.flow_dst.now c.args.up_src.now c.args.up_dst.now c.args.read_arr.now c.args.read_res.now c.args.write_arr.now c.args.write_val.now in
    let slices = lent c.args.answers.now c.args.out_comp.now c.args.out_kind.now c.args.out_type.now c.args.work.now in
    let k = c.lengths_refusal-short in
    let found = c.first_open in
    let good = lengths-good columns slices k.result (lengths-refused columns slices k.result k.ensures) c.if-short-ne0.false in
    (room-plain _ _ found.result found.ensures c.if-first_open-table.false (search rules), search rules, good.1, roomy columns slices good.0)

pub returns : goal.returns
returns c =
    let table = given_of c.args.table.now in
    let columns = columns_in c.args.components c.args.var_comp.now c.args.bnd_comp.now c.args.bnd_kind.now c.args.bnd_type.now c.args.flow_src.now c.args.flow_dst.now c.args.up_src.now c.args.up_dst.now c.args.read_arr.now c.args.read_res.now c.args.write_arr.now c.args.write_val.now in
    let slices = lent c.args.answers.now c.args.out_comp.now c.args.out_kind.now c.args.out_type.now c.args.work.now in
    let k = c.lengths_refusal-short in
    let good = lengths-good columns slices k.result (lengths-refused columns slices k.result k.ensures) c.if-short-ne0.false in
    door-long table columns slices _ _ good.0 c.solve_over.ensures
