-- `is_late` meets its contract.
use mathlib.Core.Path.{sym, subst, ◌∙◌}
use Prim.Native.Nat.{ℕ, ◌≤◌, ◌<◌}
use native.Mathlib.Omega.{arith}
use borrow.Author.Tests.{lt-ltb, ne_eqb}
use Rattle.frameheads.specs.Heads.{order-low, order-again, order-good}
use Rattle.frameheads.proofs.is_late.Goals as goal

pub returns-then-rank_of-rank : goal.returns-then-rank_of-rank
returns-then-rank_of-rank c = let a = c.args in lt-ltb c.rank_of.result a.rank c.if-rank_of-rank.true ∙ sym (order-low a.kind a.rank (subst (λ (x : ℕ). x < a.rank) c.rank_of.ensures c.if-rank_of-rank.true))

pub returns-then-kind-eq3 : goal.returns-then-kind-eq3
returns-then-kind-eq3 c = let a = c.args in sym (order-again a.kind a.rank (subst (λ (x : ℕ). a.rank ≤ x) c.rank_of.ensures (let z : a.rank ≤ c.rank_of.result = omega arith in z)) c.if-kind-eq3.true)

pub returns-else-kind-eq3 : goal.returns-else-kind-eq3
returns-else-kind-eq3 c = let a = c.args in ne_eqb a.kind 3 c.if-kind-eq3.false ∙ sym (order-good a.kind a.rank (subst (λ (x : ℕ). a.rank ≤ x) c.rank_of.ensures (let z : a.rank ≤ c.rank_of.result = omega arith in z)) c.if-kind-eq3.false)
