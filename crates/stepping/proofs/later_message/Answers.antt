-- `later_message` meets its contract: by the frame of each kind.
use mathlib.Core.Path.{refl}
use Rattle.solveframe.specs.Leaving.{solve-ready}
use Rattle.stepping.specs.Needs.{past-10, is-later}
use Rattle.stepping.specs.Kinds.{solve-step}
use Rattle.stepping.proofs.later_message.Goals as goal

pub value_message-requires : goal.value_message-requires
value_message-requires c = (c.requires.0, c.requires.2, c.requires.3, (is-later c.args.kind c.requires.4).0, c.if-kind-le5.true)

pub shape_of-rows-then-kind-le5 : goal.shape_of-rows-then-kind-le5
shape_of-rows-then-kind-le5 c = c.value_message.auto.rows

pub returns-then-kind-le5 : goal.returns-then-kind-le5
returns-then-kind-le5 c = c.value_message.ensures c.args.answers.now

pub link_message-requires : goal.link_message-requires
link_message-requires c = (c.requires.0, c.requires.2, c.if-kind-le5.false, c.if-kind-le9.true)

pub shape_of-rows-then-kind-le9 : goal.shape_of-rows-then-kind-le9
shape_of-rows-then-kind-le9 c = c.link_message.auto.rows

pub returns-then-kind-le9 : goal.returns-then-kind-le9
returns-then-kind-le9 c = c.link_message.ensures c.args.answers.now

pub solve_frame-requires : goal.solve_frame-requires
solve_frame-requires c = solve-ready c.args.last.now c.args.pairs.now c.args.marks.now c.args.rows.now c.args.answers.now c.args.n c.requires.0.ready c.requires.0.all-rows c.requires.1

pub shape_of-rows-then-kind-eq10 : goal.shape_of-rows-then-kind-eq10
shape_of-rows-then-kind-eq10 c = refl

pub shape_of-answers-then-kind-eq10 : goal.shape_of-answers-then-kind-eq10
shape_of-answers-then-kind-eq10 c = c.solve_frame.auto.answers

pub returns-then-kind-eq10 : goal.returns-then-kind-eq10
returns-then-kind-eq10 c = solve-step c.args.kind c.args.body.now c.args.last.now c.args.pairs.now c.args.marks.now c.args.rows.now c.args.n c.requires.0 _ c.args.answers.now _ c.if-kind-eq10.true c.solve_frame.ensures

pub question_message-requires : goal.question_message-requires
question_message-requires c = (c.requires.0, c.requires.2, past-10 c.args.kind c.if-kind-le9.false c.if-kind-eq10.false, c.requires.4)

pub shape_of-rows : goal.shape_of-rows
shape_of-rows c = refl

pub returns : goal.returns
returns c = c.question_message.ensures c.args.answers.now
