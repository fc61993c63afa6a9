-- `in_both` meets its contract: what was kept is what both have (m).
use mathlib.Core.Path.{sym, ap, ◌∙◌}
use Prim.Native.Nat.{ℕ, ◌+◌, ◌*◌, ◌^◌}
use native.Mathlib.Omega.{arith}
use Rattle.ty.specs.Types.{categories}
use Rattle.joins.specs.Lists.{both-none, both-some, both-load, unknown-short}
use Rattle.joins.proofs.in_both.Goals as goal

pub keep_members-load-requires : goal.keep_members-load-requires
keep_members-load-requires c =
    let p = c.requires in
    let e = c.load.ensures in
    let u = unknown-short c.args.left.word p.2 (omega arith) p.0 in
    omega arith

pub returns-then-load-eq0 : goal.returns-then-load-eq0
returns-then-load-eq0 c =
    let a = c.args in
    let m = c.keep_members-load.ensures.0 ∙ both-load a.left.word a.right.word c.requires.2 _ _ c.load.ensures c.categories.ensures in
    both-none _ _ (sym m ∙ c.if-load-eq0.true)

pub returns : goal.returns
returns c =
    let a = c.args in
    let m = c.keep_members-load.ensures.0 ∙ both-load a.left.word a.right.word c.requires.2 _ _ c.load.ensures c.categories.ensures in
    ap (λ (x : ℕ). 2 * 2 ^ 48 + x) m ∙ both-some _ _ (λ e. c.if-load-eq0.false (m ∙ e))
