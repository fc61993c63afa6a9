-- `insert_bound` meets its contract: the three answers of a put, and the offer where the bound is new.
use native.Mathlib.Omega.{arith}
use Rattle.inserting.specs.Laws.{rank-small}
use Rattle.inserting.specs.Steps.{room-left, insert-old, insert-new, insert-full}
use Rattle.inserting.proofs.insert_bound.Goals as goal

pub overflow_add-key : goal.overflow_add-key
overflow_add-key c =
    let p = c.requires in
    omega (arith, rank-small c.args.rank p.3)

pub overflow_add-key-2 : goal.overflow_add-key-2
overflow_add-key-2 c =
    let p = c.requires in
    omega (arith, rank-small c.args.rank p.3)

pub offer-q-requires : goal.offer-q-requires
offer-q-requires c =
    let x = c.args in
    let p = c.requires in
    let y = p.0.good.shows in
    (y.size, y.head, room-left x.a.now x.ring.now x.s x.component x.kind x.rank p.3 p.0 p.1 p.2)

pub returns-in-Old : goal.returns-in-Old
returns-in-Old c =
    let x = c.args in
    let i = c.insert-p in
    insert-old x.a.now x.ring.now x.s x.component x.kind x.rank c.requires.3 i.result i.new.a i.ensures.0 i.ensures.1 c.in-Old.is

pub returns-in-New : goal.returns-in-New
returns-in-New c =
    let x = c.args in
    let i = c.insert-p in
    let o = c.offer-q in
    insert-new x.a.now x.ring.now x.s x.component x.kind x.rank c.requires.3 i.result i.new.a i.ensures.0 i.ensures.1 o.new.ring o.result c.in-New.is o.ensures.0 o.ensures.1

pub returns-in-Full : goal.returns-in-Full
returns-in-Full c =
    let x = c.args in
    let i = c.insert-p in
    insert-full x.a.now x.ring.now x.s x.component x.kind x.rank c.requires.3 i.result i.new.a i.ensures.0 i.ensures.1 c.refused.result c.in-Full.is c.refused.ensures
