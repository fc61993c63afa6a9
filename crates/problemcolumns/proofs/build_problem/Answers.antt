-- `build_problem` meets its contract: the refusal of the count or of the variables, or the entries after them.
use mathlib.Core.Path.{sym, ◌∙◌}
use native.Mathlib.Omega.{arith}
use Rattle.problemcolumns.specs.ProblemColumns.{columns_in}
use Rattle.problemcolumns.specs.Laws.{head-refused, head-passed, entered-taken}
use Rattle.problemcolumns.specs.Steps.{words-fit}
use Rattle.problemcolumns.proofs.build_problem.Goals as goal

pub returns-then-refusal-ne0 : goal.returns-then-refusal-ne0
returns-then-refusal-ne0 c =
    let columns = columns_in c.args.components c.args.var_comp.now c.args.bnd_comp.now c.args.bnd_kind.now c.args.bnd_type.now c.args.flow_src.now c.args.flow_dst.now c.args.up_src.now c.args.up_dst.now c.args.read_arr.now c.args.read_res.now c.args.write_arr.now c.args.write_val.now in
    let a = c.args in
    let head = c.check_head-refusal in
    head-refused a.names columns head.result head.ensures c.if-refusal-ne0.true a.bounds.now a.flows.now a.uppers.now a.reads.now a.writes.now

pub build_entries-requires : goal.build_entries-requires
build_entries-requires c =
    let columns = columns_in c.args.components c.args.var_comp.now c.args.bnd_comp.now c.args.bnd_kind.now c.args.bnd_type.now c.args.flow_src.now c.args.flow_dst.now c.args.up_src.now c.args.up_dst.now c.args.read_arr.now c.args.read_res.now c.args.write_arr.now c.args.write_val.now in
    let passed = head-passed c.args.names columns (sym c.check_head-refusal.ensures ∙ c.if-refusal-ne0.false) in
    (c.requires.0, passed.0, c.requires.1, c.requires.2)

pub returns : goal.returns
returns c =
    let columns = columns_in c.args.components c.args.var_comp.now c.args.bnd_comp.now c.args.bnd_kind.now c.args.bnd_type.now c.args.flow_src.now c.args.flow_dst.now c.args.up_src.now c.args.up_dst.now c.args.read_arr.now c.args.read_res.now c.args.write_arr.now c.args.write_val.now in
    let a = c.args in
    let passed = head-passed a.names columns (sym c.check_head-refusal.ensures ∙ c.if-refusal-ne0.false) in
    let entries = c.build_entries in
    entered-taken a.names columns c.requires.0 (words-fit a.bnd_type.now (λ i. omega (arith, (c.type_inv.bnd_type i).fits))) passed.0 passed.1
    a.bounds.now entries.new.bounds a.flows.now entries.new.flows
    a.uppers.now entries.new.uppers a.reads.now entries.new.reads
    a.writes.now entries.new.writes entries.result entries.ensures
