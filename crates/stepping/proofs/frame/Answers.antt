-- `frame` meets its contract: HEX, or the step of the bytes; and what it leaves is ready for the next line.
use lib.ListN.{replicate, length-replicate}
use Prim.Native.Nat.{ℕ, zero-le}
use mathlib.Core.Path.{refl}
use Rattle.solveframe.specs.Parts.{slices_of}
use Rattle.stepping.specs.Lines.{line-bad, line-good, line-bytes, line-end, line-some, line-small, hex-leaves, line-leaves, stands-same, stands-after}
use Rattle.stepping.proofs.frame.Goals as goal

pub slice_bounds-read_line-end : goal.slice_bounds-read_line-end
slice_bounds-read_line-end c = refl

pub read_line-k-requires : goal.read_line-k-requires
read_line-k-requires c = refl

pub refuse-requires : goal.refuse-requires
refuse-requires c = tt

pub returns-then-k-eq0 : goal.returns-then-k-eq0
returns-then-k-eq0 c = let a = c.args in let d = c.read_line-k in record { leaves = hex-leaves a.line.now (slices_of a.last.now a.pairs.now a.marks.now a.rows.now) (slices_of a.last.now a.pairs.now a.marks.now a.rows.now) a.n c.requires.0.ready a.answers.now a.answers.now c.refuse.result (line-bad a.line.now (replicate 512 0) d.new.frame d.result d.ensures c.if-k-eq0.true) c.refuse.ensures; stands = stands-same a.last.now a.pairs.now a.marks.now a.rows.now a.n c.requires.0 c.refuse.result 1 c.refuse.ensures }

pub slice_bounds-frame_bytes-count : goal.slice_bounds-frame_bytes-count
slice_bounds-frame_bytes-count c = zero-le

pub slice_bounds-frame_bytes-start : goal.slice_bounds-frame_bytes-start
slice_bounds-frame_bytes-start c = zero-le

pub slice_bounds-frame_bytes-end : goal.slice_bounds-frame_bytes-end
slice_bounds-frame_bytes-end c = let a = c.args in let d = c.read_line-k in line-end a.line.now (replicate 512 0) d.new.frame d.result d.ensures c.if-k-eq0.false d.auto.frame (length-replicate {A = ℕ} 512 0)

pub frame_bytes-requires : goal.frame_bytes-requires
frame_bytes-requires c = let a = c.args in let d = c.read_line-k in (c.requires.0, c.requires.1, line-small a.line.now _ (line-bytes a.line.now (replicate 512 0) d.new.frame d.result d.ensures c.if-k-eq0.false), line-some a.line.now (replicate 512 0) d.new.frame d.result d.ensures c.if-k-eq0.false)

pub shape_of-last : goal.shape_of-last
shape_of-last c = c.frame_bytes.auto.last

pub shape_of-pairs : goal.shape_of-pairs
shape_of-pairs c = c.frame_bytes.auto.pairs

pub shape_of-marks : goal.shape_of-marks
shape_of-marks c = c.frame_bytes.auto.marks

pub shape_of-rows : goal.shape_of-rows
shape_of-rows c = c.frame_bytes.auto.rows

pub shape_of-answers : goal.shape_of-answers
shape_of-answers c = c.frame_bytes.auto.answers

pub returns : goal.returns
returns c = let a = c.args in let d = c.read_line-k in let y = c.frame_bytes in let w = line-leaves a.line.now (slices_of a.last.now a.pairs.now a.marks.now a.rows.now) (slices_of y.new.last y.new.pairs y.new.marks y.new.rows) a.n c.requires.0.ready a.answers.now y.new.answers y.result _ (line-good a.line.now (replicate 512 0) d.new.frame d.result d.ensures c.if-k-eq0.false) (line-bytes a.line.now (replicate 512 0) d.new.frame d.result d.ensures c.if-k-eq0.false) y.ensures in record { leaves = w; stands = stands-after a.last.now a.pairs.now a.marks.now a.rows.now a.n c.requires.0 y.result a.line.now y.new.last y.new.pairs y.new.marks y.new.rows a.answers.now y.new.answers w y.auto.last y.auto.pairs y.auto.marks y.auto.rows }
