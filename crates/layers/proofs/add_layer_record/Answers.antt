-- `add_layer_record` meets its contract: refused, or both slices filled and the layer's keys counted on.
use native.Mathlib.Omega.{arith}
use Rattle.layers.proofs.Steps.{fills-refused, fills-taken, good, small-class, small-parents, left-within, left-ordered, left-room, more, counted-on}
use Rattle.layers.proofs.add_layer_record.Goals as goal

pub check_record-refusal-requires : goal.check_record-refusal-requires
check_record-refusal-requires c = (c.requires.few, c.requires.ordered, c.requires.counted, c.requires.layer-room)

pub returns-then-refusal-ne0 : goal.returns-then-refusal-ne0
returns-then-refusal-ne0 c =
    let a = c.args in
    let check = c.check_record-refusal in
    fills-refused a.pairs.now a.marks.now a.t a.layer c.requires a.flags a.class a.parents.now check.result check.ensures c.if-refusal-ne0.true

pub uncover-left-requires : goal.uncover-left-requires
uncover-left-requires c =
    let a = c.args in
    let check = c.check_record-refusal in (
      small-class a.pairs.now a.marks.now a.t a.layer c.requires a.flags a.class a.parents.now check.result check.ensures c.if-refusal-ne0.false,
      omega (arith, c.requires.long, c.requires.within),
      c.requires.ordered,
    )

pub put_pairs-n-requires : goal.put_pairs-n-requires
put_pairs-n-requires c =
    let a = c.args in
    let check = c.check_record-refusal in
    let z = c.if-refusal-ne0.false in
    let u = c.uncover-left in (
      small-class a.pairs.now a.marks.now a.t a.layer c.requires a.flags a.class a.parents.now check.result check.ensures z,
      small-parents a.pairs.now a.marks.now a.t a.layer c.requires a.flags a.class a.parents.now check.result check.ensures z,
      left-within a.pairs.now a.marks.now a.t a.layer c.requires a.flags a.class a.parents.now check.result check.ensures z _ _ u.ensures.0 u.ensures.1,
      left-ordered a.pairs.now a.marks.now a.t a.layer c.requires a.flags a.class a.parents.now check.result check.ensures z _ _ u.ensures.0 u.ensures.1,
      left-room a.pairs.now a.marks.now a.t a.layer c.requires a.flags a.class a.parents.now check.result check.ensures z _ _ u.ensures.0 u.ensures.1,
    )

pub put_marks-requires : goal.put_marks-requires
put_marks-requires c =
    let a = c.args in
    let check = c.check_record-refusal in (
      c.requires.wide,
      small-class a.pairs.now a.marks.now a.t a.layer c.requires a.flags a.class a.parents.now check.result check.ensures c.if-refusal-ne0.false,
    )

pub overflow_sub-grown : goal.overflow_sub-grown
overflow_sub-grown c =
    let a = c.args in
    let check = c.check_record-refusal in
    let z = c.if-refusal-ne0.false in
    let u = c.uncover-left in
    let p = c.put_pairs-n in
    let m = c.put_marks in
    more a.pairs.now a.marks.now a.t a.layer c.requires a.flags a.class a.parents.now check.result check.ensures z _ _ u.ensures.0 u.ensures.1 _ _ _ p.ensures.0 p.ensures.1 m.ensures

pub overflow_add-grown : goal.overflow_add-grown
overflow_add-grown c =
    let a = c.args in
    let check = c.check_record-refusal in
    let z = c.if-refusal-ne0.false in
    let u = c.uncover-left in
    let p = c.put_pairs-n in
    let m = c.put_marks in
    record { fits = omega (arith, counted-on a.pairs.now a.marks.now a.t a.layer c.requires a.flags a.class a.parents.now check.result check.ensures z _ _ u.ensures.0 u.ensures.1 _ _ _ p.ensures.0 p.ensures.1 m.ensures, (good a.pairs.now a.marks.now a.t a.layer c.requires a.flags a.class a.parents.now check.result check.ensures z).room) }

pub returns : goal.returns
returns c =
    let a = c.args in
    let check = c.check_record-refusal in
    let z = c.if-refusal-ne0.false in
    let u = c.uncover-left in
    let p = c.put_pairs-n in
    let m = c.put_marks in
    fills-taken a.pairs.now a.marks.now a.t a.layer c.requires a.flags a.class a.parents.now check.result check.ensures z _ _ u.ensures.0 u.ensures.1 _ _ _ p.ensures.0 p.ensures.1 m.ensures _ c.with.ensures
