-- `build_entries` meets its contract: kind after kind, each after the refusal of those before it.
use native.Mathlib.Omega.{arith}
use Rattle.problemcolumns.specs.ProblemColumns.{columns_in}
use Rattle.problemcolumns.specs.Steps.{evens, reads-few, entered}
use Rattle.problemcolumns.proofs.build_entries.Goals as goal

pub add_bounds-b-requires : goal.add_bounds-b-requires
add_bounds-b-requires c =
    let columns = columns_in c.args.components c.args.var_comp.now c.args.bnd_comp.now c.args.bnd_kind.now c.args.bnd_type.now c.args.flow_src.now c.args.flow_dst.now c.args.up_src.now c.args.up_dst.now c.args.read_arr.now c.args.read_res.now c.args.write_arr.now c.args.write_val.now in
    let e = evens columns c.requires.2 in
    (c.requires.0, c.requires.1, e.kinds, e.words, c.requires.3.0)

pub add_pairs_after-f-requires : goal.add_pairs_after-f-requires
add_pairs_after-f-requires c =
    let columns = columns_in c.args.components c.args.var_comp.now c.args.bnd_comp.now c.args.bnd_kind.now c.args.bnd_type.now c.args.flow_src.now c.args.flow_dst.now c.args.up_src.now c.args.up_dst.now c.args.read_arr.now c.args.read_res.now c.args.write_arr.now c.args.write_val.now in
    (c.requires.1, (evens columns c.requires.2).flows, c.requires.3.1)

pub add_pairs_after-u-requires : goal.add_pairs_after-u-requires
add_pairs_after-u-requires c =
    let columns = columns_in c.args.components c.args.var_comp.now c.args.bnd_comp.now c.args.bnd_kind.now c.args.bnd_type.now c.args.flow_src.now c.args.flow_dst.now c.args.up_src.now c.args.up_dst.now c.args.read_arr.now c.args.read_res.now c.args.write_arr.now c.args.write_val.now in
    (c.requires.1, (evens columns c.requires.2).uppers, c.requires.3.2)

pub add_pairs_after-r-requires : goal.add_pairs_after-r-requires
add_pairs_after-r-requires c =
    let columns = columns_in c.args.components c.args.var_comp.now c.args.bnd_comp.now c.args.bnd_kind.now c.args.bnd_type.now c.args.flow_src.now c.args.flow_dst.now c.args.up_src.now c.args.up_dst.now c.args.read_arr.now c.args.read_res.now c.args.write_arr.now c.args.write_val.now in
    (c.requires.1, (evens columns c.requires.2).reads, c.requires.3.3)

pub overflow_sub-room : goal.overflow_sub-room
overflow_sub-room c = let d = c.add_pairs_after-r in reads-few _ _ _ _ _ _ d.result d.ensures

pub add_pairs_after-w-requires : goal.add_pairs_after-w-requires
add_pairs_after-w-requires c =
    let columns = columns_in c.args.components c.args.var_comp.now c.args.bnd_comp.now c.args.bnd_kind.now c.args.bnd_type.now c.args.flow_src.now c.args.flow_dst.now c.args.up_src.now c.args.up_dst.now c.args.read_arr.now c.args.read_res.now c.args.write_arr.now c.args.write_val.now in
    (c.requires.1, (evens columns c.requires.2).writes, omega (arith, c.requires.3.4))

pub shape_of-bounds : goal.shape_of-bounds
shape_of-bounds c = c.add_bounds-b.auto.bounds

pub returns : goal.returns
returns c =
    let columns = columns_in c.args.components c.args.var_comp.now c.args.bnd_comp.now c.args.bnd_kind.now c.args.bnd_type.now c.args.flow_src.now c.args.flow_dst.now c.args.up_src.now c.args.up_dst.now c.args.read_arr.now c.args.read_res.now c.args.write_arr.now c.args.write_val.now in
    let a = c.args in
    let b = c.add_bounds-b in
    let f = c.add_pairs_after-f in
    let u = c.add_pairs_after-u in
    let r = c.add_pairs_after-r in
    let w = c.add_pairs_after-w in
    entered a.names columns a.bounds.now _ a.flows.now _ a.uppers.now _ a.reads.now _ a.writes.now _ b.result f.result u.result r.result w.result
    b.ensures f.ensures u.ensures r.ensures w.ensures
