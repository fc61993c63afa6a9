-- `question_message` meets its contract: the frame of a question is the step of its message.
use Rattle.stepping.specs.Needs.{is-13, passes, relation-needs, supertype-needs, cast-needs}
use Rattle.stepping.specs.Kinds.{relation-step, supertype-step, cast-step}
use Rattle.stepping.proofs.question_message.Goals as goal

pub relation_frame-requires : goal.relation_frame-requires
relation_frame-requires c = relation-needs c.args.kind c.args.body.now c.args.last.now c.args.pairs.now c.args.marks.now c.args.rows.now c.args.n c.requires.0 c.requires.1 c.if-kind-eq11.true

pub returns-then-kind-eq11 : goal.returns-then-kind-eq11
returns-then-kind-eq11 c = relation-step c.args.kind c.args.body.now c.args.last.now c.args.pairs.now c.args.marks.now c.args.rows.now c.args.n c.requires.0 _ c.if-kind-eq11.true c.relation_frame.ensures

pub supertype_frame-requires : goal.supertype_frame-requires
supertype_frame-requires c = supertype-needs c.args.kind c.args.body.now c.args.last.now c.args.pairs.now c.args.marks.now c.args.rows.now c.args.n c.requires.0 c.requires.1 c.if-kind-eq12.true

pub returns-then-kind-eq12 : goal.returns-then-kind-eq12
returns-then-kind-eq12 c = supertype-step c.args.kind c.args.body.now c.args.last.now c.args.pairs.now c.args.marks.now c.args.rows.now c.args.n c.requires.0 _ c.if-kind-eq12.true c.supertype_frame.ensures

pub cast_frame-requires : goal.cast_frame-requires
cast_frame-requires c = cast-needs c.args.kind c.args.body.now c.args.last.now c.args.pairs.now c.args.marks.now c.args.rows.now c.args.n c.requires.0 c.requires.1 (is-13 c.args.kind c.requires.2 (passes c.args.kind c.args.body.now c.args.last.now c.args.pairs.now c.args.marks.now c.args.rows.now c.args.n c.requires.0 c.requires.1).to c.requires.3 c.if-kind-eq11.false c.if-kind-eq12.false)

pub returns : goal.returns
returns c = cast-step c.args.kind c.args.body.now c.args.last.now c.args.pairs.now c.args.marks.now c.args.rows.now c.args.n c.requires.0 _ (is-13 c.args.kind c.requires.2 (passes c.args.kind c.args.body.now c.args.last.now c.args.pairs.now c.args.marks.now c.args.rows.now c.args.n c.requires.0 c.requires.1).to c.requires.3 c.if-kind-eq11.false c.if-kind-eq12.false) c.cast_frame.ensures
