-- `put_type` meets its contract: the dimensions, then the base.
use Prim.Native.Nat.{ℕ}
use native.Mathlib.Omega.{arith}
use lib.ListN.{replicate, length-replicate}
use Rattle.ty.specs.Words.{dims_of, legal_word}
use Rattle.writer.specs.Store.{put-as, put-of, put-append}
use Rattle.writer.specs.Steps.{print-word, word-parts}
use Rattle.writer.proofs.put_type.Goals as goal

pub put_brackets-requires : goal.put_brackets-requires
put_brackets-requires c =
    let a = c.args in
    let p = c.requires in
    let e = word-parts a.names.now a.name_at.now a.name_len.now a.word in
    omega arith

pub put_base-requires : goal.put_base-requires
unfolding legal_word
put_base-requires c =
    let a = c.args in
    let p = c.requires in
    let k = c.put_brackets.auto.out in
    let e = word-parts a.names.now a.name_at.now a.name_len.now a.word in
    (p.0, p.1, omega arith)

pub returns : goal.returns
returns c =
    let a = c.args in
    put-as (print-word a.names.now a.name_at.now a.name_len.now a.word)
    (put-append {xs = replicate (dims_of a.word) 91} (put-of (length-replicate {A = ℕ} (dims_of a.word) 91) c.put_brackets.ensures)
    c.put_base.ensures)
