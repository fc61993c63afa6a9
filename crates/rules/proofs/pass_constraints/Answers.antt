-- `pass_constraints` meets its contract: reads, then writes, or the first refusal.
use native.Mathlib.Omega.{arith}
use Rattle.inserting.specs.Store.{store, sent_types}
use Rattle.inserting.specs.Laws.{sent-base}
use Rattle.passing.specs.Steps.{next-ready}
use Rattle.rules.specs.Rules.{read_rules}
use Rattle.rules.specs.Steps.{arrays-given, constraints-first, constraints-second}
use Rattle.rules.proofs.pass_constraints.Goals as goal

pub returns-then-first-ne0 : goal.returns-then-first-ne0
returns-then-first-ne0 c =
    let x = c.args in
    let o = c.send_arrays-first in
    constraints-first x.reads.now x.writes.now x.root x.element x.array (store x.a.now x.ring.now x.s) (store o.new.a o.new.ring o.result) o.ensures c.if-first-ne0.true

pub send_arrays-requires : goal.send_arrays-requires
send_arrays-requires c =
    let x = c.args in
    let p = c.requires in
    let o = c.send_arrays-first in
    (next-ready (read_rules x.reads.now x.root x.element x.array) (store x.a.now x.ring.now x.s) (store o.new.a o.new.ring o.result) (arrays-given 4 x.root (sent_types x.element) (sent_types x.array) x.reads.now (omega arith) p.1 (sent-base x.element p.3) (sent-base x.array p.4)) p.0 o.ensures c.if-first-ne0.false, p.2, omega arith, p.3, p.4)

pub returns : goal.returns
returns c =
    let x = c.args in
    let o = c.send_arrays-first in
    let v = c.send_arrays in
    constraints-second x.reads.now x.writes.now x.root x.element x.array (store x.a.now x.ring.now x.s) (store o.new.a o.new.ring o.result) o.ensures (store v.new.a v.new.ring v.result) v.ensures
