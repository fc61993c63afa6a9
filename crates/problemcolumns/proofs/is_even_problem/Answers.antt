-- `is_even_problem` meets its contract: the first columns that differ decide.
use borrow.Author.Tests.{eq-eqb, ne_eqb}
use Rattle.problemcolumns.specs.ProblemColumns.{even_rows}
use Rattle.problemcolumns.specs.Steps.{even-last}
use Rattle.problemcolumns.proofs.is_even_problem.Goals as goal

pub returns-then-bnd_comp-bnd_kind : goal.returns-then-bnd_comp-bnd_kind
unfolding even_rows
returns-then-bnd_comp-bnd_kind c = simp (ne_eqb _ _ c.if-bnd_comp-bnd_kind.true)

pub returns-then-bnd_comp-bnd_type : goal.returns-then-bnd_comp-bnd_type
unfolding even_rows
returns-then-bnd_comp-bnd_type c = simp (eq-eqb _ _ c.if-bnd_comp-bnd_kind.false, ne_eqb _ _ c.if-bnd_comp-bnd_type.true)

pub returns-then-flow_src-flow_dst : goal.returns-then-flow_src-flow_dst
unfolding even_rows
returns-then-flow_src-flow_dst c = simp (eq-eqb _ _ c.if-bnd_comp-bnd_kind.false, eq-eqb _ _ c.if-bnd_comp-bnd_type.false, ne_eqb _ _ c.if-flow_src-flow_dst.true)

pub returns-then-up_src-up_dst : goal.returns-then-up_src-up_dst
unfolding even_rows
returns-then-up_src-up_dst c = simp (eq-eqb _ _ c.if-bnd_comp-bnd_kind.false, eq-eqb _ _ c.if-bnd_comp-bnd_type.false, eq-eqb _ _ c.if-flow_src-flow_dst.false, ne_eqb _ _ c.if-up_src-up_dst.true)

pub returns-then-read_arr-read_res : goal.returns-then-read_arr-read_res
unfolding even_rows
returns-then-read_arr-read_res c = simp (eq-eqb _ _ c.if-bnd_comp-bnd_kind.false, eq-eqb _ _ c.if-bnd_comp-bnd_type.false, eq-eqb _ _ c.if-flow_src-flow_dst.false, eq-eqb _ _ c.if-up_src-up_dst.false, ne_eqb _ _ c.if-read_arr-read_res.true)

pub returns : goal.returns
returns c =
    let a = c.args in
    even-last a.bnd_comp a.bnd_kind a.bnd_type a.flow_src a.flow_dst a.up_src a.up_dst a.read_arr a.read_res a.write_arr a.write_val
    c.if-bnd_comp-bnd_kind.false c.if-bnd_comp-bnd_type.false c.if-flow_src-flow_dst.false c.if-up_src-up_dst.false c.if-read_arr-read_res.false
