-- `type_length` meets its contract.
use native.Mathlib.Omega.{arith}
use lib.ListN.{length}
use Rattle.ty.specs.Words.{load_of}
use Rattle.writer.specs.Steps.{legal-inside, class-size, plain-size}
use Rattle.writer.proofs.type_length.Goals as goal

pub bounds-name_len-class : goal.bounds-name_len-class
bounds-name_len-class c =
    let A = c.args in
    let B = c.requires in
    let h = legal-inside (length A.name_len.now) A.word B.1 c.if-tag-eq1.true in h

pub overflow_add-result : goal.overflow_add-result
overflow_add-result c =
    let A = c.args in
    let B = c.requires in
    let h = legal-inside (length A.name_len.now) A.word B.1 c.if-tag-eq1.true in
    let f = B.0.few (load_of A.word) h in omega arith

pub overflow_add-result-then-tag-eq1 : goal.overflow_add-result-then-tag-eq1
overflow_add-result-then-tag-eq1 c =
    let A = c.args in
    let B = c.requires in
    let h = legal-inside (length A.name_len.now) A.word B.1 c.if-tag-eq1.true in
    let f = B.0.few (load_of A.word) h in omega arith

pub returns-then-tag-eq1 : goal.returns-then-tag-eq1
returns-then-tag-eq1 c =
    let A = c.args in
    let B = c.requires in
    let h = legal-inside (length A.name_len.now) A.word B.1 c.if-tag-eq1.true in
    let f = B.0.few (load_of A.word) h in (class-size A.name_len.now A.word c.if-tag-eq1.true, omega arith)

pub returns : goal.returns
returns c =
    let A = c.args in
    (plain-size A.name_len.now A.word c.if-tag-eq1.false, omega arith)
