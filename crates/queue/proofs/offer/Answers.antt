-- `offer` meets its contract: who is queued stays where it is, another goes to the back.
use mathlib.Core.Path.{sym, ◌∙◌}
use Prim.Native.Nat.{◌+◌}
use native.Mathlib.Omega.{arith}
use Rattle.queue.specs.Laws.{offered-old, offered-new, ring-old, ring-new}
use Rattle.queue.proofs.offer.Goals as goal

pub returns-then-has : goal.returns-then-has
returns-then-has c =
    let a = c.args in
    let m = sym c.has.ensures ∙ c.if-has.true in
    (sym (offered-old a.q a.c m), sym (ring-old a.q a.c a.ring.now m))

pub overflow_add-at : goal.overflow_add-at
overflow_add-at c =
    let p = c.requires in
    let l = p.2 (sym c.has.ensures ∙ c.if-has.false) in
    omega arith

pub overflow_add-result : goal.overflow_add-result
overflow_add-result c =
    let p = c.requires in
    let l = p.2 (sym c.has.ensures ∙ c.if-has.false) in
    omega arith

pub returns : goal.returns
returns c =
    let a = c.args in
    let m = sym c.has.ensures ∙ c.if-has.false in
    let w = c.with.ensures in
    ((λ k. record { head = a.q.head; len = a.q.len + 1; queued = record { words = w k } }) ∙ sym (offered-new a.q a.c m), sym (ring-new a.q a.c a.ring.now m))
