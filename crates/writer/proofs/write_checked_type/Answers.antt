-- `write_checked_type` meets its contract: a case for each refusal, and one for none.
use mathlib.Core.Path.{refl, sym, ap, ◌∙◌}
use Prim.Native.Nat.{ℕ}
use native.Mathlib.Omega.{arith}
use lib.ListN.{length}
use Rattle.ty.specs.Words.{legal_word}
use Rattle.writer.specs.Steps.{checked-short, word-size, type-illegal, type-long, type-fits, wrote-none, wrote-all}
use Rattle.writer.proofs.write_checked_type.Goals as goal

pub returns-then-not-is_legal : goal.returns-then-not-is_legal
returns-then-not-is_legal c =
    let a = c.args in
    wrote-none 7 (type-illegal a.names.now a.name_at.now a.name_len.now a.word (length a.out.now) (sym c.is_legal.ensures ∙ c.if-not-is_legal.true))
    (λ z. omega arith) refl

pub type_length-requires : goal.type_length-requires
type_length-requires c =
    let a = c.args in
    let p = c.requires in
    (checked-short p, ap (λ (n : ℕ). legal_word n a.word) (sym p.columns) ∙ sym c.is_legal.ensures ∙ c.if-not-is_legal.false)

pub returns-then-out-type_length : goal.returns-then-out-type_length
returns-then-out-type_length c =
    let a = c.args in
    let p = c.requires in
    let h = sym c.is_legal.ensures ∙ c.if-not-is_legal.false in
    let s = word-size a.names.now a.name_at.now a.name_len.now p a.word h in
    let r = c.type_length.ensures in
    wrote-none 22 (type-long a.names.now a.name_at.now a.name_len.now a.word (length a.out.now) h (omega arith)) (λ z. omega arith) refl

pub put_type-end-requires : goal.put_type-end-requires
put_type-end-requires c =
    let a = c.args in
    let p = c.requires in
    let h = sym c.is_legal.ensures ∙ c.if-not-is_legal.false in
    let s = word-size a.names.now a.name_at.now a.name_len.now p a.word h in
    let r = c.type_length.ensures in
    (p, h, omega arith)

pub returns : goal.returns
returns c =
    let a = c.args in
    let p = c.requires in
    let h = sym c.is_legal.ensures ∙ c.if-not-is_legal.false in
    let s = word-size a.names.now a.name_at.now a.name_len.now p a.word h in
    let r = c.type_length.ensures in
    wrote-all (type-fits a.names.now a.name_at.now a.name_len.now a.word (length a.out.now) h (omega arith)) c.put_type-end.ensures (omega arith)
