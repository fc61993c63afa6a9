-- `check_head` meets its contract.
use mathlib.Core.Path.{sym, ◌∙◌}
use native.Mathlib.Omega.{arith}
use Rattle.frameheads.specs.Heads.{head-zero, head-over, head-length, head-order, head-none}
use Rattle.frameheads.proofs.check_head.Goals as goal

pub returns-then-kind-eq0 : goal.returns-then-kind-eq0
returns-then-kind-eq0 c = let a = c.args in head-zero a.kind a.n a.rank c.if-kind-eq0.true

pub returns-then-kind-gt14 : goal.returns-then-kind-gt14
returns-then-kind-gt14 c = let a = c.args in head-over a.kind a.n a.rank c.if-kind-eq0.false (omega arith)

pub returns-then-is_late : goal.returns-then-is_late
returns-then-is_late c = let a = c.args in head-order a.kind a.n a.rank c.if-kind-eq0.false (omega arith) (sym c.is_length.ensures ∙ c.if-is_length.true) (sym c.is_late.ensures ∙ c.if-is_late.true)

pub returns-then-is_length : goal.returns-then-is_length
returns-then-is_length c = let a = c.args in head-none a.kind a.n a.rank c.if-kind-eq0.false (omega arith) (sym c.is_length.ensures ∙ c.if-is_length.true) (sym c.is_late.ensures ∙ c.if-is_late.false)

pub returns : goal.returns
returns c = let a = c.args in head-length a.kind a.n a.rank c.if-kind-eq0.false (omega arith) (sym c.is_length.ensures ∙ c.if-is_length.false)
