-- `say_line` meets its contract: what the frame leaves, and what it says at the end of the buffer.
use Prim.Native.Nat.{zero-le}
use Rattle.saying.specs.Printing.{speaks, inside, answers-end, answers-few, filled-in}
use Rattle.saying.proofs.say_line.Goals as goal

pub frame-f-requires : goal.frame-f-requires
frame-f-requires c = (c.requires.0, c.requires.1)

pub slice_bounds-put_said-count : goal.slice_bounds-put_said-count
slice_bounds-put_said-count c = zero-le

pub slice_bounds-put_said-start : goal.slice_bounds-put_said-start
slice_bounds-put_said-start c = zero-le

pub slice_bounds-put_said-end : goal.slice_bounds-put_said-end
slice_bounds-put_said-end c = answers-end c.args.n.variables c.args.answers.now c.frame-f.new.answers c.requires.0.ready.within.variables c.frame-f.auto.answers c.requires.1

pub put_said-filled-requires : goal.put_said-filled-requires
put_said-filled-requires c = (c.requires.2, answers-few c.args.n.variables c.args.answers.now _ c.requires.0.ready.within.variables c.frame-f.auto.answers c.requires.1)

pub shape_of-last : goal.shape_of-last
shape_of-last c = c.frame-f.auto.last

pub shape_of-pairs : goal.shape_of-pairs
shape_of-pairs c = c.frame-f.auto.pairs

pub shape_of-marks : goal.shape_of-marks
shape_of-marks c = c.frame-f.auto.marks

pub shape_of-rows : goal.shape_of-rows
shape_of-rows c = c.frame-f.auto.rows

pub shape_of-answers : goal.shape_of-answers
shape_of-answers c = c.frame-f.auto.answers

pub shape_of-out : goal.shape_of-out
shape_of-out c = c.put_said-filled.auto.out

pub returns : goal.returns
returns c = let f = c.frame-f in let p = c.put_said-filled in record { speaks = speaks c.args.line.now c.args.last.now c.args.pairs.now c.args.marks.now c.args.rows.now f.new.last f.new.pairs f.new.marks f.new.rows c.args.answers.now f.new.answers c.args.n c.requires.0 f.result c.args.number c.args.filled c.args.out.now _ p.result f.ensures.leaves p.ensures; stands = (f.ensures.stands, inside _ c.args.filled c.args.out.now _ p.result p.ensures (filled-in c.args.filled c.args.out.now c.requires.2) p.auto.out) }
