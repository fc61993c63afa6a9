-- `put_method` meets its contract: '(', the parameters, ')', the result.
use native.Mathlib.Omega.{arith}
use lib.ListN.{length-set}
use Rattle.writer.specs.Print.{print_words}
use Rattle.writer.specs.Store.{put-as, put_byte, put-append, put-length}
use Rattle.writer.specs.Steps.{print-method, method-parts}
use Rattle.writer.proofs.put_method.Goals as goal

pub returns : goal.returns
returns c =
    let a = c.args in
    put-as (print-method a.names.now a.name_at.now a.name_len.now a.params.now a.res)
    (put-append (put_byte 40 a.out.now 0)
    (put-append {xs = print_words a.names.now a.name_at.now a.name_len.now a.params.now} c.put_types-close.ensures
    (put-append (put_byte 41 _ _) c.put_type.ensures)))

pub bounds-out-0 : goal.bounds-out-0
bounds-out-0 c =
    let a = c.args in
    let p = c.requires in
    let e = method-parts a.names.now a.name_at.now a.name_len.now a.params.now a.res in
    omega arith

pub put_types-close-requires : goal.put_types-close-requires
put_types-close-requires c =
    let a = c.args in
    let p = c.requires in
    let e = method-parts a.names.now a.name_at.now a.name_len.now a.params.now a.res in
    (p.0, p.1, simp length-set (omega arith))

pub bounds-out-close : goal.bounds-out-close
bounds-out-close c =
    let a = c.args in
    let p = c.requires in
    let e = method-parts a.names.now a.name_at.now a.name_len.now a.params.now a.res in
    let l = put-length c.put_types-close.ensures in
    let s = length-set a.out.now 0 40 in
    let n = c.put_types-close.ensures.next in
    omega arith

pub overflow_add-close : goal.overflow_add-close
overflow_add-close c =
    let a = c.args in
    let p = c.requires in
    let e = method-parts a.names.now a.name_at.now a.name_len.now a.params.now a.res in
    let n = c.put_types-close.ensures.next in
    omega arith

pub put_type-requires : goal.put_type-requires
put_type-requires c =
    let a = c.args in
    let p = c.requires in
    let e = method-parts a.names.now a.name_at.now a.name_len.now a.params.now a.res in
    let l = put-length c.put_types-close.ensures in
    let s = length-set a.out.now 0 40 in
    let n = c.put_types-close.ensures.next in
    (p.0, p.2, simp length-set (omega arith))

pub shape_of-out : goal.shape_of-out
shape_of-out c = put-length (returns c)
