-- `frame_bytes` meets its contract: the head's refusal, or the step of the message.
use mir.Facts.{Fits-8_64}
use mathlib.Core.Path.{refl, sym, ◌∙◌}
use native.Mathlib.Nat.{le_refl}
use Rattle.framestate.specs.declared.Said.TheVariants.{Refused}
use Rattle.framestate.specs.FrameState.{framed}
use Rattle.solveframe.specs.Parts.{slices_of}
use Rattle.stepping.specs.Lines.{bytes-refused, bytes-headed, bytes-rest, bytes-passed}
use Rattle.stepping.proofs.frame_bytes.Goals as goal

pub bounds-bytes-0 : goal.bounds-bytes-0
bounds-bytes-0 c = c.requires.3

pub overflow_cast-kind : goal.overflow_cast-kind
overflow_cast-kind c = Fits-8_64 (c.type_inv.bytes 0)

pub overflow_sub-bytes : goal.overflow_sub-bytes
overflow_sub-bytes c = c.requires.3

pub check_head-refusal-requires : goal.check_head-refusal-requires
check_head-refusal-requires c = tt

pub refuse-requires : goal.refuse-requires
refuse-requires c = tt

pub returns-then-refusal-ne0 : goal.returns-then-refusal-ne0
returns-then-refusal-ne0 c = let a = c.args in bytes-refused a.bytes.now (slices_of a.last.now a.pairs.now a.marks.now a.rows.now) (slices_of a.last.now a.pairs.now a.marks.now a.rows.now) a.n c.requires.0.ready a.answers.now a.answers.now _ c.check_head-refusal.result c.check_head-refusal.ensures c.if-refusal-ne0.true c.refuse.ensures

pub slice_bounds-body-count : goal.slice_bounds-body-count
slice_bounds-body-count c = c.requires.3

pub slice_bounds-body-start : goal.slice_bounds-body-start
slice_bounds-body-start c = c.requires.3

pub slice_bounds-body-end : goal.slice_bounds-body-end
slice_bounds-body-end c = le_refl _

pub is_class_kind-requires : goal.is_class_kind-requires
is_class_kind-requires c = tt

pub class_message-requires : goal.class_message-requires
class_message-requires c = let a = c.args in (c.requires.0, bytes-headed a.bytes.now (slices_of a.last.now a.pairs.now a.marks.now a.rows.now) (slices_of a.last.now a.pairs.now a.marks.now a.rows.now) a.n c.requires.0.ready a.answers.now a.answers.now (framed (Refused 0) a.n) c.check_head-refusal.result c.check_head-refusal.ensures c.if-refusal-ne0.false, sym c.is_class_kind.ensures ∙ c.if-is_class_kind.true)

pub shape_of-last-then-is_class_kind : goal.shape_of-last-then-is_class_kind
shape_of-last-then-is_class_kind c = c.class_message.auto.last

pub shape_of-pairs-then-is_class_kind : goal.shape_of-pairs-then-is_class_kind
shape_of-pairs-then-is_class_kind c = c.class_message.auto.pairs

pub shape_of-marks-then-is_class_kind : goal.shape_of-marks-then-is_class_kind
shape_of-marks-then-is_class_kind c = c.class_message.auto.marks

pub shape_of-rows-then-is_class_kind : goal.shape_of-rows-then-is_class_kind
shape_of-rows-then-is_class_kind c = refl

pub returns-then-is_class_kind : goal.returns-then-is_class_kind
returns-then-is_class_kind c = let a = c.args in bytes-passed a.bytes.now (slices_of a.last.now a.pairs.now a.marks.now a.rows.now) (slices_of c.class_message.new.last c.class_message.new.pairs c.class_message.new.marks a.rows.now) a.n c.requires.0.ready a.answers.now a.answers.now c.class_message.result c.check_head-refusal.result c.check_head-refusal.ensures c.if-refusal-ne0.false (c.class_message.ensures a.answers.now)

pub later_message-requires : goal.later_message-requires
later_message-requires c = let a = c.args in (c.requires.0, c.requires.1, bytes-headed a.bytes.now (slices_of a.last.now a.pairs.now a.marks.now a.rows.now) (slices_of a.last.now a.pairs.now a.marks.now a.rows.now) a.n c.requires.0.ready a.answers.now a.answers.now (framed (Refused 0) a.n) c.check_head-refusal.result c.check_head-refusal.ensures c.if-refusal-ne0.false, bytes-rest a.bytes.now (slices_of a.last.now a.pairs.now a.marks.now a.rows.now) (slices_of a.last.now a.pairs.now a.marks.now a.rows.now) a.n c.requires.0.ready a.answers.now a.answers.now (framed (Refused 0) a.n) c.check_head-refusal.result c.check_head-refusal.ensures c.requires.2, sym c.is_class_kind.ensures ∙ c.if-is_class_kind.false)

pub shape_of-last : goal.shape_of-last
shape_of-last c = refl

pub shape_of-pairs : goal.shape_of-pairs
shape_of-pairs c = refl

pub shape_of-marks : goal.shape_of-marks
shape_of-marks c = refl

pub shape_of-rows : goal.shape_of-rows
shape_of-rows c = c.later_message.auto.rows

pub shape_of-answers : goal.shape_of-answers
shape_of-answers c = c.later_message.auto.answers

pub returns : goal.returns
returns c = let a = c.args in bytes-passed a.bytes.now (slices_of a.last.now a.pairs.now a.marks.now a.rows.now) (slices_of a.last.now a.pairs.now a.marks.now c.later_message.new.rows) a.n c.requires.0.ready a.answers.now c.later_message.new.answers c.later_message.result c.check_head-refusal.result c.check_head-refusal.ensures c.if-refusal-ne0.false c.later_message.ensures
