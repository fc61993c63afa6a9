-- `send_each` meets its contract: what is left are the links from the index on.
use Rattle.std.specs.Prelude.{◌+◌, ◌%◌, drop, get_or}
use Rattle.std.proofs.Common.{refl, sym, ap, ◌∙◌, arith}
use Rattle.solving.specs.Solving.{to_one, to_each}
use Rattle.inserting.specs.Store.{store, put_all}
use Rattle.inserting.specs.Laws.{all-stopped}
use Rattle.passing.specs.Passes.{seconds}
use Rattle.passing.specs.Steps.{one-given, next-ready, each-put, each-done}
use Rattle.passing.proofs.send_each.Goals as goal

pub loop-link-init : goal.loop-link-init
loop-link-init g c = (omega arith, c.requires.0, refl)

pub put-state-requires : goal.put-state-requires
put-state-requires g c =
    let p = c.requires in
    (c.loop-link.invariant.1, omega arith, p.1, p.2)

pub returns-then-state-ne0 : goal.returns-then-state-ne0
returns-then-state-ne0 g c =
    let x = c.args in
    let l = c.loop-link in
    let o = c.put-state in
    let ts = g.L.Load.types x.load in
    let rest = to_each 0 x.kind ts (drop (l.link-index + 1) (seconds x.links.now)) in
    sym
    (l.invariant.2 ∙ each-put x.kind ts x.links.now l.link-index (store l.a l.ring l.state) (omega arith)
    ∙ ap (put_all rest) (sym o.ensures)
    ∙ all-stopped rest (store o.new.a o.new.ring o.result) c.if-state-ne0.true)

pub loop-link-preserved : goal.loop-link-preserved
loop-link-preserved g c =
    let x = c.args in
    let l = c.loop-link in
    let o = c.put-state in
    let p = c.requires in
    let to = get_or x.links.now l.link-index 0 % 512 in
    let ts = g.L.Load.types x.load in
    let before = store l.a l.ring l.state in (
      omega arith,
      next-ready (to_one 0 x.kind ts to) before (store o.new.a o.new.ring o.result) (one-given x.kind to ts p.1 (omega arith) (g.met.L.Load.base x.load p.2)) l.invariant.1 o.ensures c.if-state-ne0.false,
      l.invariant.2 ∙ each-put x.kind ts x.links.now l.link-index before (omega arith)
          ∙ ap (put_all (to_each 0 x.kind ts (drop (l.link-index + 1) (seconds x.links.now)))) (sym o.ensures),
    )

pub returns : goal.returns
returns g c =
    let x = c.args in
    let l = c.loop-link in
    sym (l.invariant.2 ∙ each-done x.kind (g.L.Load.types x.load) x.links.now l.link-index (store l.a l.ring l.state) (omega arith))
