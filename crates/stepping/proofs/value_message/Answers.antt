-- `value_message` meets its contract: the frame of the count, a variable or a bound is the step of its message.
use borrow.Rule.Slice.PartMut.{same_len_mid}
use mathlib.Core.Path.{refl}
use Rattle.stepping.specs.Needs.{below, inside, is-5, passes, count-needs, variable-needs, bound-needs}
use Rattle.stepping.specs.Kinds.{count-step, variable-step, bound-step}
use Rattle.stepping.proofs.value_message.Goals as goal

pub count_frame-requires : goal.count_frame-requires
count_frame-requires c = count-needs c.args.kind c.args.body.now c.args.last.now c.args.pairs.now c.args.marks.now c.args.rows.now c.args.n c.requires.0 c.requires.1 c.if-kind-eq3.true

pub returns-then-kind-eq3 : goal.returns-then-kind-eq3
returns-then-kind-eq3 c = count-step c.args.kind c.args.body.now c.args.last.now c.args.pairs.now c.args.marks.now c.args.rows.now c.args.n c.requires.0 _ c.if-kind-eq3.true (passes c.args.kind c.args.body.now c.args.last.now c.args.pairs.now c.args.marks.now c.args.rows.now c.args.n c.requires.0 c.requires.1) c.count_frame.ensures

pub slice_bounds-variable_frame-count : goal.slice_bounds-variable_frame-count
slice_bounds-variable_frame-count c = below refl

pub slice_bounds-variable_frame-start : goal.slice_bounds-variable_frame-start
slice_bounds-variable_frame-start c = below refl

pub slice_bounds-variable_frame-end : goal.slice_bounds-variable_frame-end
slice_bounds-variable_frame-end c = inside _ c.args.rows.now c.requires.0.all-rows (below refl)

pub variable_frame-requires : goal.variable_frame-requires
variable_frame-requires c = variable-needs c.args.kind c.args.body.now c.args.last.now c.args.pairs.now c.args.marks.now c.args.rows.now c.args.n c.requires.0 c.requires.1 c.if-kind-eq4.true

pub shape_of-rows-then-kind-eq4 : goal.shape_of-rows-then-kind-eq4
shape_of-rows-then-kind-eq4 c = same_len_mid 0 2048 c.args.rows.now c.variable_frame.new.variables c.variable_frame.auto.variables

pub returns-then-kind-eq4 : goal.returns-then-kind-eq4
returns-then-kind-eq4 c = variable-step c.args.kind c.args.body.now c.args.last.now c.args.pairs.now c.args.marks.now c.args.rows.now c.args.n c.requires.0 _ _ c.if-kind-eq4.true c.variable_frame.ensures c.variable_frame.auto.variables

pub slice_bounds-bound_frame-count : goal.slice_bounds-bound_frame-count
slice_bounds-bound_frame-count c = below refl

pub slice_bounds-bound_frame-start : goal.slice_bounds-bound_frame-start
slice_bounds-bound_frame-start c = below refl

pub slice_bounds-bound_frame-end : goal.slice_bounds-bound_frame-end
slice_bounds-bound_frame-end c = inside _ c.args.rows.now c.requires.0.all-rows (below refl)

pub bound_frame-requires : goal.bound_frame-requires
bound_frame-requires c = bound-needs c.args.kind c.args.body.now c.args.last.now c.args.pairs.now c.args.marks.now c.args.rows.now c.args.n c.requires.0 c.requires.1 (is-5 c.args.kind c.requires.3 c.requires.4 c.if-kind-eq3.false c.if-kind-eq4.false)

pub shape_of-rows : goal.shape_of-rows
shape_of-rows c = same_len_mid 2048 4096 c.args.rows.now c.bound_frame.new.bounds c.bound_frame.auto.bounds

pub returns : goal.returns
returns c = bound-step c.args.kind c.args.body.now c.args.last.now c.args.pairs.now c.args.marks.now c.args.rows.now c.args.n c.requires.0 _ _ (is-5 c.args.kind c.requires.3 c.requires.4 c.if-kind-eq3.false c.if-kind-eq4.false) (bound-needs c.args.kind c.args.body.now c.args.last.now c.args.pairs.now c.args.marks.now c.args.rows.now c.args.n c.requires.0 c.requires.1 (is-5 c.args.kind c.requires.3 c.requires.4 c.if-kind-eq3.false c.if-kind-eq4.false)).0 c.requires.2 c.bound_frame.ensures c.bound_frame.auto.bounds
