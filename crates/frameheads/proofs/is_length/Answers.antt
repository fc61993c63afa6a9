-- `is_length` meets its contract, kind by kind.
use mathlib.Core.Path.{sym, ap, ap₂, ◌∙◌}
use mathlib.Core.Bool.{Bool, ◌&&◌}
use Prim.Native.Nat.{◌%◌}
use native.Mathlib.Omega.{arith}
use lib.Dec.{eqb, leb}
use borrow.Author.Tests.{le-leb, lt-leb, eq-eqb, ne_eqb}
use Rattle.frameheads.specs.Heads.{length-1, length-2, length-4, length-5, length-10, length-14, length-pair}
use Rattle.frameheads.proofs.is_length.Goals as goal

pub returns-then-n-lt1 : goal.returns-then-n-lt1
returns-then-n-lt1 c = let a = c.args in sym (length-1 a.kind a.n c.if-kind-eq1.true ∙ ap (λ (x : Bool). x && leb a.n 255) (lt-leb 1 a.n (omega arith)))

pub returns-then-kind-eq1 : goal.returns-then-kind-eq1
returns-then-kind-eq1 c = let a = c.args in sym (length-1 a.kind a.n c.if-kind-eq1.true ∙ ap (λ (x : Bool). x && leb a.n 255) (le-leb 1 a.n (omega arith)))

pub returns-then-n-lt3 : goal.returns-then-n-lt3
returns-then-n-lt3 c = let a = c.args in sym (length-2 a.kind a.n c.if-kind-eq2.true ∙ ap (λ (x : Bool). x && (eqb (a.n % 2) 1 && leb a.n 511)) (lt-leb 3 a.n (omega arith)))

pub returns-then-n-eq1 : goal.returns-then-n-eq1
returns-then-n-eq1 c = let a = c.args in sym (length-2 a.kind a.n c.if-kind-eq2.true ∙ ap₂ (λ (x y : Bool). x && (y && leb a.n 511)) (le-leb 3 a.n (omega arith)) (eq-eqb (a.n % 2) 1 c.if-n-eq1.true))

pub returns-then-kind-eq2 : goal.returns-then-kind-eq2
returns-then-kind-eq2 c = let a = c.args in sym (length-2 a.kind a.n c.if-kind-eq2.true ∙ ap₂ (λ (x y : Bool). x && (y && leb a.n 511)) (le-leb 3 a.n (omega arith)) (ne_eqb (a.n % 2) 1 c.if-n-eq1.false))

pub returns-then-kind-le4 : goal.returns-then-kind-le4
returns-then-kind-le4 c = let a = c.args in sym (length-4 a.kind a.n c.if-kind-eq1.false c.if-kind-eq2.false (omega arith))

pub returns-then-kind-eq5 : goal.returns-then-kind-eq5
returns-then-kind-eq5 c = let a = c.args in sym (length-5 a.kind a.n c.if-kind-eq5.true)

pub returns-then-kind-eq10 : goal.returns-then-kind-eq10
returns-then-kind-eq10 c = let a = c.args in sym (length-10 a.kind a.n c.if-kind-eq10.true)

pub returns-then-kind-eq14 : goal.returns-then-kind-eq14
returns-then-kind-eq14 c = let a = c.args in sym (length-14 a.kind a.n (omega arith))

pub returns : goal.returns
returns c = let a = c.args in sym (length-pair a.kind a.n c.if-kind-eq1.false c.if-kind-eq2.false (omega arith) c.if-kind-eq5.false c.if-kind-eq10.false c.if-kind-eq14.false)
