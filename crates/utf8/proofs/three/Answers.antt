-- `three` meets its contract: a row is matched where its first range and, one byte on, its rest are.
use mathlib.Core.Path.{sym, ◌∙◌}
use mathlib.Core.List.{[], ◌∷◌}
use native.Mathlib.Omega.{arith}
use lib.Seq.{slice}
use Rattle.utf8.specs.Utf8.{◌‥◌}
use Rattle.utf8.proofs.Part.{match-in, match-then, match-not}
use Rattle.utf8.proofs.three.Goals as goal

pub overflow_add-i : goal.overflow_add-i
overflow_add-i c =
    let a = c.args in
    let h = match-in (a.lo ‥ a.hi) a.s.now a.i a.to c.requires c.one.ensures c.if-one.true in
    omega arith

pub returns-then-one : goal.returns-then-one
returns-then-one c =
    let a = c.args in
    c.two.ensures ∙ sym (match-then (a.lo ‥ a.hi) (0x80 ‥ 0xBF ∷ 0x80 ‥ 0xBF ∷ []) a.i a.to a.s.now c.one.ensures c.if-one.true)

pub returns : goal.returns
returns c =
    let a = c.args in
    sym (match-not (a.lo ‥ a.hi) (0x80 ‥ 0xBF ∷ 0x80 ‥ 0xBF ∷ []) (slice a.i a.to a.s.now) c.one.ensures c.if-one.false)
