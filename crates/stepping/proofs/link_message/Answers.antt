-- `link_message` meets its contract: the frame of a flow, an upper flow, a read or a write is the step of its message.
use borrow.Rule.Slice.PartMut.{same_len_mid}
use mathlib.Core.Path.{refl}
use Rattle.stepping.specs.Needs.{below, inside, is-9, flow-needs, upper-needs, read-needs, write-needs}
use Rattle.stepping.specs.Kinds.{flow-step, upper-step, read-step, write-step}
use Rattle.stepping.proofs.link_message.Goals as goal

pub slice_bounds-flow_frame-count : goal.slice_bounds-flow_frame-count
slice_bounds-flow_frame-count c = below refl

pub slice_bounds-flow_frame-start : goal.slice_bounds-flow_frame-start
slice_bounds-flow_frame-start c = below refl

pub slice_bounds-flow_frame-end : goal.slice_bounds-flow_frame-end
slice_bounds-flow_frame-end c = inside _ c.args.rows.now c.requires.0.all-rows (below refl)

pub flow_frame-requires : goal.flow_frame-requires
flow_frame-requires c = flow-needs c.args.kind c.args.body.now c.args.last.now c.args.pairs.now c.args.marks.now c.args.rows.now c.args.n c.requires.0 c.requires.1 c.if-kind-eq6.true

pub shape_of-rows-then-kind-eq6 : goal.shape_of-rows-then-kind-eq6
shape_of-rows-then-kind-eq6 c = same_len_mid 6144 2048 c.args.rows.now c.flow_frame.new.flows c.flow_frame.auto.flows

pub returns-then-kind-eq6 : goal.returns-then-kind-eq6
returns-then-kind-eq6 c = flow-step c.args.kind c.args.body.now c.args.last.now c.args.pairs.now c.args.marks.now c.args.rows.now c.args.n c.requires.0 _ _ c.if-kind-eq6.true c.flow_frame.ensures c.flow_frame.auto.flows

pub slice_bounds-upper_frame-count : goal.slice_bounds-upper_frame-count
slice_bounds-upper_frame-count c = below refl

pub slice_bounds-upper_frame-start : goal.slice_bounds-upper_frame-start
slice_bounds-upper_frame-start c = below refl

pub slice_bounds-upper_frame-end : goal.slice_bounds-upper_frame-end
slice_bounds-upper_frame-end c = inside _ c.args.rows.now c.requires.0.all-rows (below refl)

pub upper_frame-requires : goal.upper_frame-requires
upper_frame-requires c = upper-needs c.args.kind c.args.body.now c.args.last.now c.args.pairs.now c.args.marks.now c.args.rows.now c.args.n c.requires.0 c.requires.1 c.if-kind-eq7.true

pub shape_of-rows-then-kind-eq7 : goal.shape_of-rows-then-kind-eq7
shape_of-rows-then-kind-eq7 c = same_len_mid 8192 1024 c.args.rows.now c.upper_frame.new.uppers c.upper_frame.auto.uppers

pub returns-then-kind-eq7 : goal.returns-then-kind-eq7
returns-then-kind-eq7 c = upper-step c.args.kind c.args.body.now c.args.last.now c.args.pairs.now c.args.marks.now c.args.rows.now c.args.n c.requires.0 _ _ c.if-kind-eq7.true c.upper_frame.ensures c.upper_frame.auto.uppers

pub slice_bounds-read_frame-count : goal.slice_bounds-read_frame-count
slice_bounds-read_frame-count c = below refl

pub slice_bounds-read_frame-start : goal.slice_bounds-read_frame-start
slice_bounds-read_frame-start c = below refl

pub slice_bounds-read_frame-end : goal.slice_bounds-read_frame-end
slice_bounds-read_frame-end c = inside _ c.args.rows.now c.requires.0.all-rows (below refl)

pub read_frame-requires : goal.read_frame-requires
read_frame-requires c = read-needs c.args.kind c.args.body.now c.args.last.now c.args.pairs.now c.args.marks.now c.args.rows.now c.args.n c.requires.0 c.requires.1 c.if-kind-eq8.true

pub shape_of-rows-then-kind-eq8 : goal.shape_of-rows-then-kind-eq8
shape_of-rows-then-kind-eq8 c = same_len_mid 9216 1024 c.args.rows.now c.read_frame.new.reads c.read_frame.auto.reads

pub returns-then-kind-eq8 : goal.returns-then-kind-eq8
returns-then-kind-eq8 c = read-step c.args.kind c.args.body.now c.args.last.now c.args.pairs.now c.args.marks.now c.args.rows.now c.args.n c.requires.0 _ _ c.if-kind-eq8.true c.read_frame.ensures c.read_frame.auto.reads

pub slice_bounds-write_frame-count : goal.slice_bounds-write_frame-count
slice_bounds-write_frame-count c = below refl

pub slice_bounds-write_frame-start : goal.slice_bounds-write_frame-start
slice_bounds-write_frame-start c = below refl

pub slice_bounds-write_frame-end : goal.slice_bounds-write_frame-end
slice_bounds-write_frame-end c = inside _ c.args.rows.now c.requires.0.all-rows (below refl)

pub write_frame-requires : goal.write_frame-requires
write_frame-requires c = write-needs c.args.kind c.args.body.now c.args.last.now c.args.pairs.now c.args.marks.now c.args.rows.now c.args.n c.requires.0 c.requires.1 (is-9 c.args.kind c.requires.2 c.requires.3 c.if-kind-eq6.false c.if-kind-eq7.false c.if-kind-eq8.false)

pub shape_of-rows : goal.shape_of-rows
shape_of-rows c = same_len_mid 10240 1024 c.args.rows.now c.write_frame.new.writes c.write_frame.auto.writes

pub returns : goal.returns
returns c = write-step c.args.kind c.args.body.now c.args.last.now c.args.pairs.now c.args.marks.now c.args.rows.now c.args.n c.requires.0 _ _ (is-9 c.args.kind c.requires.2 c.requires.3 c.if-kind-eq6.false c.if-kind-eq7.false c.if-kind-eq8.false) c.write_frame.ensures c.write_frame.auto.writes
