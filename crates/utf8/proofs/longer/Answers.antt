-- `longer` meets its contract: each arm is a row of the table (counted from 0), and no row begins with any other byte.
use mathlib.Core.Path.{refl, sym}
use native.Mathlib.Omega.{arith}
use Rattle.utf8.specs.Utf8.{table}
use Rattle.utf8.specs.Rows.{sequence-gap, sequence-past}
use Rattle.utf8.proofs.Part.{by-row}
use Rattle.utf8.proofs.longer.Goals as goal

pub returns-in-224 : goal.returns-in-224
unfolding table
returns-in-224 c = by-row 2 _ refl (omega arith) (omega arith) c.two.ensures c.length_if.ensures

pub returns-in-237 : goal.returns-in-237
unfolding table
returns-in-237 c = by-row 4 _ refl (omega arith) (omega arith) c.two-in-237.ensures c.length_if-in-237.ensures

pub returns-in-240 : goal.returns-in-240
unfolding table
returns-in-240 c = by-row 6 _ refl (omega arith) (omega arith) c.three.ensures c.length_if-in-240.ensures

pub returns-in-244 : goal.returns-in-244
unfolding table
returns-in-244 c = by-row 8 _ refl (omega arith) (omega arith) c.three-in-244.ensures c.length_if-in-244.ensures

pub returns-in-194-to-223 : goal.returns-in-194-to-223
unfolding table
returns-in-194-to-223 c = by-row 1 _ refl (omega arith) (omega arith) c.one.ensures c.length_if-in-194-to-223.ensures

pub returns-in-225-to-236 : goal.returns-in-225-to-236
unfolding table
returns-in-225-to-236 c = by-row 3 _ refl (omega arith) (omega arith) c.two-in-225-to-236.ensures c.length_if-in-225-to-236.ensures

pub returns-in-238-to-239 : goal.returns-in-238-to-239
unfolding table
returns-in-238-to-239 c = by-row 5 _ refl (omega arith) (omega arith) c.two-in-238-to-239.ensures c.length_if-in-238-to-239.ensures

pub returns-in-241-to-243 : goal.returns-in-241-to-243
unfolding table
returns-in-241-to-243 c = by-row 7 _ refl (omega arith) (omega arith) c.three-in-241-to-243.ensures c.length_if-in-241-to-243.ensures

pub returns-in_default : goal.returns-in_default
returns-in_default c = sym (sequence-gap _ _ c.requires.0 (omega arith))

pub returns-in_default-2 : goal.returns-in_default-2
returns-in_default-2 c = sym (sequence-past _ _ (omega arith))
