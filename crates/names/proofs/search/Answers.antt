-- `search` meets its contract: the middle name settles all on one side of it.
use mathlib.Core.Path.{sym, ap, ◌∙◌}
use Prim.Native.Nat.{◌+◌, ◌-◌, ◌/◌}
use native.Mathlib.Omega.{arith}
use Rattle.names.specs.Names.{found}
use Rattle.names.specs.Table.{checked}
use Rattle.names.proofs.Bracket.{bracket-start, bracket-up, bracket-down, bracket-hit, bracket-miss}
use Rattle.names.proofs.search.Goals as goal

pub loop-low-init : goal.loop-low-init
loop-low-init c =
    let a = c.args in
    bracket-start a.names.now a.name_at.now a.name_len.now a.key.now
    (checked a.names.now a.name_at.now a.name_len.now c.requires)

pub compare_at-order-requires : goal.compare_at-order-requires
compare_at-order-requires c =
    let l = c.loop-low in
    let i = l.invariant.table.inside (l.low + (l.high - l.low) / 2) (omega arith) in (i.starts, i.ends)

pub loop-low-preserved-in-Less : goal.loop-low-preserved-in-Less
loop-low-preserved-in-Less c =
    let l = c.loop-low in
    bracket-up l.invariant (l.low + (l.high - l.low) / 2) (omega arith) (omega arith)
    (sym c.compare_at-order.ensures ∙ c.in-Less.is)

pub returns-in-Equal : goal.returns-in-Equal
returns-in-Equal c =
    let l = c.loop-low in
    ap found
    (sym (bracket-hit l.invariant (l.low + (l.high - l.low) / 2) (omega arith)
    (sym c.compare_at-order.ensures ∙ c.in-Equal.is)))

pub loop-low-preserved : goal.loop-low-preserved
loop-low-preserved c =
    let l = c.loop-low in
    bracket-down l.invariant (l.low + (l.high - l.low) / 2) (omega arith) (omega arith)
    (sym c.compare_at-order.ensures ∙ c.in-Greater.is)

pub returns : goal.returns
returns c = ap found (sym (bracket-miss c.loop-low.invariant c.loop-low-test.false))
