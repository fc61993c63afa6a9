-- `put_base` meets its contract: a letter, a class by its name, or `?`.
use borrow.Author.Rules.{rules}
use mathlib.Core.Path.{sym, ap, ◌∙◌}
use Prim.Native.Nat.{ℕ}
use mathlib.Core.List.{[], ◌∷◌}
use native.Mathlib.Omega.{arith}
use lib.ListN.{length}
use Rattle.writer.specs.Store.{put-as, put_byte}
use Rattle.writer.specs.Steps.{category-low, class-inside, class-length, print-category, print-class, print-unknown}
use Rattle.writer.proofs.put_base.Goals as goal

pub letter-requires : goal.letter-requires
letter-requires c =
    let a = c.args in
    let p = c.requires in
    category-low (length a.name_at.now) a.tag a.load p.1 c.if-tag-eq0.true

pub bounds-out-at : goal.bounds-out-at
bounds-out-at c =
    let a = c.args in
    let p = c.requires in
    let e = ap length (print-category a.names.now a.name_at.now a.name_len.now a.tag a.load c.if-tag-eq0.true) in
    omega arith

pub returns-then-tag-eq0 : goal.returns-then-tag-eq0
returns-then-tag-eq0 c =
    let a = c.args in
    put-as
    (print-category a.names.now a.name_at.now a.name_len.now a.tag a.load c.if-tag-eq0.true
    ∙ ap (λ (b : ℕ). b ∷ []) (sym c.letter.ensures))
    (put_byte c.letter.result a.out.now a.at)

pub offset_bounds-name_at-class : goal.offset_bounds-name_at-class
offset_bounds-name_at-class c =
    let a = c.args in
    let p = c.requires in
    let h = class-inside (length a.name_at.now) a.tag a.load p.1 c.if-tag-eq1.true in
    search rules

pub bounds-name_at-class : goal.bounds-name_at-class
bounds-name_at-class c =
    let a = c.args in
    let p = c.requires in
    let h = class-inside (length a.name_at.now) a.tag a.load p.1 c.if-tag-eq1.true in h

pub offset_bounds-name_len-class : goal.offset_bounds-name_len-class
offset_bounds-name_len-class c =
    let a = c.args in
    let p = c.requires in
    let h = class-inside (length a.name_at.now) a.tag a.load p.1 c.if-tag-eq1.true in
    search rules

pub bounds-name_len-class : goal.bounds-name_len-class
bounds-name_len-class c =
    let a = c.args in
    let p = c.requires in
    let h = class-inside (length a.name_at.now) a.tag a.load p.1 c.if-tag-eq1.true in
    let e = p.0.columns in omega arith

pub put_class-requires : goal.put_class-requires
put_class-requires c =
    let a = c.args in
    let p = c.requires in
    let h = class-inside (length a.name_at.now) a.tag a.load p.1 c.if-tag-eq1.true in
    let i = p.0.inside a.load h in
    let l = class-length a.names.now a.name_at.now a.name_len.now p.0 a.tag a.load p.1 c.if-tag-eq1.true in
    (omega arith, omega arith)

pub returns-then-tag-eq1 : goal.returns-then-tag-eq1
returns-then-tag-eq1 c =
    let a = c.args in
    put-as (print-class a.names.now a.name_at.now a.name_len.now a.tag a.load c.if-tag-eq1.true) c.put_class.ensures

pub bounds-out-at-2 : goal.bounds-out-at-2
bounds-out-at-2 c =
    let a = c.args in
    let p = c.requires in
    let e = ap length (print-unknown a.names.now a.name_at.now a.name_len.now a.tag a.load c.if-tag-eq0.false c.if-tag-eq1.false) in
    omega arith

pub returns : goal.returns
returns c =
    let a = c.args in
    put-as (print-unknown a.names.now a.name_at.now a.name_len.now a.tag a.load c.if-tag-eq0.false c.if-tag-eq1.false) (put_byte 63 a.out.now a.at)
