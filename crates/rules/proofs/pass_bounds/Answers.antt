-- `pass_bounds` meets its contract: three passes, or the first refusal.
use borrow.Author.Rules.{rules}
use mathlib.Core.Path.{◌∙◌}
use mathlib.Core.List.{map}
use native.Mathlib.Omega.{arith}
use Rattle.keys.specs.Rank.{unrank}
use Rattle.inserting.specs.Store.{store, sent_types}
use Rattle.inserting.specs.Laws.{sent-base}
use Rattle.passing.specs.Steps.{ranked-base, next-ready}
use Rattle.rules.specs.Rules.{target_rule, fallback_rule}
use Rattle.rules.specs.Steps.{each-given, bounds-first, bounds-second, bounds-third}
use Rattle.rules.proofs.pass_bounds.Goals as goal

pub returns-then-first-ne0 : goal.returns-then-first-ne0
returns-then-first-ne0 c =
    let x = c.args in
    let o = c.send-first in
    bounds-first x.flows.now x.incoming.now x.root x.produced x.fallbacks.now x.uppers.now (store x.a.now x.ring.now x.s) (store o.new.a o.new.ring o.result) o.ensures c.if-first-ne0.true

pub send-second-requires : goal.send-second-requires
send-second-requires c =
    let x = c.args in
    let p = c.requires in
    let o = c.send-first in
    (next-ready (target_rule x.flows.now x.root x.produced) (store x.a.now x.ring.now x.s) (store o.new.a o.new.ring o.result) (each-given 3 x.root (sent_types x.produced) x.flows.now (omega arith) (sent-base x.produced p.3)) p.0 o.ensures c.if-first-ne0.false, omega arith, search rules, search rules)

pub returns-then-second-ne0 : goal.returns-then-second-ne0
returns-then-second-ne0 c =
    let x = c.args in
    let o = c.send-first in
    let v = c.send-second in
    bounds-second x.flows.now x.incoming.now x.root x.produced x.fallbacks.now x.uppers.now (store x.a.now x.ring.now x.s) (store o.new.a o.new.ring o.result) o.ensures (store v.new.a v.new.ring v.result) v.ensures c.if-second-ne0.true

pub send-requires : goal.send-requires
send-requires c =
    let x = c.args in
    let p = c.requires in
    let o = c.send-first in
    let v = c.send-second in
    (next-ready (fallback_rule x.flows.now x.root x.fallbacks.now) (store o.new.a o.new.ring o.result) (store v.new.a v.new.ring v.result) (each-given 1 x.root (map unrank x.fallbacks.now) x.flows.now (omega arith) (ranked-base x.fallbacks.now p.4)) (next-ready (target_rule x.flows.now x.root x.produced) (store x.a.now x.ring.now x.s) (store o.new.a o.new.ring o.result) (each-given 3 x.root (sent_types x.produced) x.flows.now (omega arith) (sent-base x.produced p.3)) p.0 o.ensures c.if-first-ne0.false) v.ensures c.if-second-ne0.false, omega arith, search rules, search rules)

pub shape_of-a : goal.shape_of-a
shape_of-a c = c.send.auto.a ∙ c.send-second.auto.a ∙ c.send-first.auto.a

pub returns : goal.returns
returns c =
    let x = c.args in
    let o = c.send-first in
    let v = c.send-second in
    let z = c.send in
    bounds-third x.flows.now x.incoming.now x.root x.produced x.fallbacks.now x.uppers.now (store x.a.now x.ring.now x.s) (store o.new.a o.new.ring o.result) o.ensures (store v.new.a v.new.ring v.result) v.ensures (store z.new.a z.new.ring z.result) z.ensures
