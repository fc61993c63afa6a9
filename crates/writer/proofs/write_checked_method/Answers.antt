-- `write_checked_method` meets its contract: a case for each refusal, and one for none.
use mathlib.Core.Path.{refl, sym, ap, ap₂, ◌∙◌}
use Prim.Native.Nat.{ℕ}
use mathlib.Core.Bool.{Bool, ◌&&◌}
use native.Mathlib.Omega.{arith}
use lib.ListN.{length}
use Rattle.ty.specs.Words.{legal_word, all_legal}
use Rattle.writer.specs.Steps.{checked-short, method-size, method-many, method-illegal, method-long, method-fits, wrote-none, wrote-all}
use Rattle.writer.proofs.write_checked_method.Goals as goal

pub returns-then-params-gt-PARAMETERS : goal.returns-then-params-gt-PARAMETERS
returns-then-params-gt-PARAMETERS c =
    let a = c.args in
    wrote-none 8 (method-many a.names.now a.name_at.now a.name_len.now a.params.now a.res (length a.out.now) (omega arith)) (λ z. omega arith) refl

pub returns-then-not-are_legal : goal.returns-then-not-are_legal
returns-then-not-are_legal c =
    let a = c.args in
    let h = sym c.are_legal.ensures ∙ c.if-not-are_legal.true in
    wrote-none 7 (method-illegal a.names.now a.name_at.now a.name_len.now a.params.now a.res (length a.out.now) (omega arith) (ap (λ (t : Bool). t && legal_word (length a.name_at.now) a.res) h))
    (λ z. omega arith) refl

pub returns-then-not-is_legal : goal.returns-then-not-is_legal
returns-then-not-is_legal c =
    let a = c.args in
    let h = sym c.are_legal.ensures ∙ c.if-not-are_legal.false in
    let g = sym c.is_legal.ensures ∙ c.if-not-is_legal.true in
    wrote-none 7 (method-illegal a.names.now a.name_at.now a.name_len.now a.params.now a.res (length a.out.now) (omega arith) (ap₂ (λ (t u : Bool). t && u) h g))
    (λ z. omega arith) refl

pub method_length-requires : goal.method_length-requires
method_length-requires c =
    let a = c.args in
    let p = c.requires in
    let h = sym c.are_legal.ensures ∙ c.if-not-are_legal.false in
    let g = sym c.is_legal.ensures ∙ c.if-not-is_legal.false in (
      checked-short p,
      ap (λ (n : ℕ). all_legal n a.params.now) (sym p.columns) ∙ h,
      omega arith,
      ap (λ (n : ℕ). legal_word n a.res) (sym p.columns) ∙ g,
    )

pub returns-then-out-method_length : goal.returns-then-out-method_length
returns-then-out-method_length c =
    let a = c.args in
    let p = c.requires in
    let h = sym c.are_legal.ensures ∙ c.if-not-are_legal.false in
    let g = sym c.is_legal.ensures ∙ c.if-not-is_legal.false in
    let s = method-size a.names.now a.name_at.now a.name_len.now p a.params.now a.res h g in
    let r = c.method_length.ensures in
    wrote-none 22 (method-long a.names.now a.name_at.now a.name_len.now a.params.now a.res (length a.out.now) (omega arith) h g (omega arith)) (λ z. omega arith) refl

pub put_method-end-requires : goal.put_method-end-requires
put_method-end-requires c =
    let a = c.args in
    let p = c.requires in
    let h = sym c.are_legal.ensures ∙ c.if-not-are_legal.false in
    let g = sym c.is_legal.ensures ∙ c.if-not-is_legal.false in
    let s = method-size a.names.now a.name_at.now a.name_len.now p a.params.now a.res h g in
    let r = c.method_length.ensures in
    (p, h, g, omega arith)

pub returns : goal.returns
returns c =
    let a = c.args in
    let p = c.requires in
    let h = sym c.are_legal.ensures ∙ c.if-not-are_legal.false in
    let g = sym c.is_legal.ensures ∙ c.if-not-is_legal.false in
    let s = method-size a.names.now a.name_at.now a.name_len.now p a.params.now a.res h g in
    let r = c.method_length.ensures in
    wrote-all (method-fits a.names.now a.name_at.now a.name_len.now a.params.now a.res (length a.out.now) (omega arith) h g (omega arith)) c.put_method-end.ensures (omega arith)
