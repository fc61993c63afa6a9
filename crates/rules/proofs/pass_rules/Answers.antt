-- `pass_rules` meets its contract: the rules on bounds, then those on array constraints.
use Rattle.inserting.specs.Store.{store}
use Rattle.passing.specs.Steps.{next-ready}
use Rattle.rules.specs.Rules.{bound_rules}
use Rattle.rules.specs.Steps.{bounds-given, rules-first, rules-second}
use Rattle.rules.proofs.pass_rules.Goals as goal

pub returns-then-bounds-ne0 : goal.returns-then-bounds-ne0
returns-then-bounds-ne0 c =
    let x = c.args in
    let o = c.pass_bounds-bounds in
    rules-first x.flows.now x.incoming.now x.reads.now x.writes.now x.root x.produced x.fallbacks.now x.uppers.now x.element x.array (store x.a.now x.ring.now x.s) (store o.new.a o.new.ring o.result) o.ensures c.if-bounds-ne0.true

pub pass_constraints-requires : goal.pass_constraints-requires
pass_constraints-requires c =
    let x = c.args in
    let p = c.requires in
    let o = c.pass_bounds-bounds in
    (next-ready (bound_rules x.flows.now x.incoming.now x.root x.produced x.fallbacks.now x.uppers.now) (store x.a.now x.ring.now x.s) (store o.new.a o.new.ring o.result) (bounds-given x.flows.now x.incoming.now x.root x.produced x.fallbacks.now x.uppers.now p.5 p.6 p.7) p.0 o.ensures c.if-bounds-ne0.false, p.3, p.4, p.8, p.9)

pub returns : goal.returns
returns c =
    let x = c.args in
    let o = c.pass_bounds-bounds in
    let v = c.pass_constraints in
    rules-second x.flows.now x.incoming.now x.reads.now x.writes.now x.root x.produced x.fallbacks.now x.uppers.now x.element x.array (store x.a.now x.ring.now x.s) (store o.new.a o.new.ring o.result) o.ensures (store v.new.a v.new.ring v.result) v.ensures
