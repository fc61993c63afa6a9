-- `class_message` meets its contract: the frame of a name, of a record or of a layer that is opened is the step of its message.
use Rattle.stepping.specs.Needs.{is-14, passes, name-needs, record-needs}
use Rattle.stepping.specs.Kinds.{name-step, record-step, open-step}
use Rattle.stepping.proofs.class_message.Goals as goal

pub name_frame-requires : goal.name_frame-requires
name_frame-requires c = name-needs c.args.kind c.args.body.now c.args.last.now c.args.pairs.now c.args.marks.now c.args.rows.now c.args.n c.requires.0 c.requires.1 c.if-kind-eq1.true

pub shape_of-last-then-kind-eq1 : goal.shape_of-last-then-kind-eq1
shape_of-last-then-kind-eq1 c = c.name_frame.auto.last

pub returns-then-kind-eq1 : goal.returns-then-kind-eq1
returns-then-kind-eq1 c = name-step c.args.kind c.args.body.now c.args.last.now c.args.pairs.now c.args.marks.now c.args.rows.now c.args.n c.requires.0 _ _ c.if-kind-eq1.true c.name_frame.ensures

pub record_frame-requires : goal.record_frame-requires
record_frame-requires c = let a = c.args in record-needs a.kind a.body.now a.last.now a.pairs.now a.marks.now a.rows.now a.n c.requires.0 c.requires.1 c.if-kind-eq2.true

pub shape_of-pairs-then-kind-eq2 : goal.shape_of-pairs-then-kind-eq2
shape_of-pairs-then-kind-eq2 c = c.record_frame.auto.pairs

pub shape_of-marks-then-kind-eq2 : goal.shape_of-marks-then-kind-eq2
shape_of-marks-then-kind-eq2 c = c.record_frame.auto.marks

pub returns-then-kind-eq2 : goal.returns-then-kind-eq2
returns-then-kind-eq2 c = let a = c.args in record-step a.kind a.body.now a.last.now a.pairs.now a.marks.now a.rows.now a.n c.requires.0 _ _ _ c.if-kind-eq2.true c.record_frame.ensures

pub open_frame-requires : goal.open_frame-requires
open_frame-requires c = tt

pub returns : goal.returns
returns c = let a = c.args in open-step a.kind a.body.now a.last.now a.pairs.now a.marks.now a.rows.now a.n c.requires.0 _ (is-14 a.kind c.requires.2 (passes a.kind a.body.now a.last.now a.pairs.now a.marks.now a.rows.now a.n c.requires.0 c.requires.1).from c.if-kind-eq1.false c.if-kind-eq2.false) c.open_frame.ensures
